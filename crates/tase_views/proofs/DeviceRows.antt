-- A device that a peer's tables name is one row of the centre, whichever table names it.
use Rattle.std.proofs.Common.{◌≡◌, ℕ, suc, zero, ◌<◌, Bool, true, false, not, ◌||◌}
use Rattle.std.proofs.Common.{if◌then◌else◌, List, [], ◌∷◌, ◌++◌, map, length, Option, Some, None}
use Rattle.std.proofs.Common.{is_some, bytes_eq, subst, refl, sym, ap, ◌∙◌, ⊎_elim, arith}
use Rattle.std.specs.Prelude.{All, find, flat_map, slice_index_or}
use Rattle.std.specs.List.{list_any}
use Rattle.std.specs.Option.{option_map_or}
use Rattle.std.proofs.lemmas.Bool.{false≢true, cases_lt, cases_order}
use Rattle.std.proofs.lemmas.Option.{same_Some, none-some}
use Rattle.std.proofs.lemmas.List.{get_or_past, get_or-map, length-map}
use Rattle.std.proofs.lemmas.List.Folds.{list_any-append}
use Rattle.std.proofs.lemmas.Slice.Eq.{bytes_eq-Decides}
use Rattle.mms_data.specs.ObjectName.{ObjectName}
use Rattle.bilateral.specs.declared.rows.Table.{Table}
use Rattle.bilateral.specs.declared.rows.Control.{Control}
use Rattle.bilateral.specs.Rows.{CentreRows, IsCentre, IsControlling, variants_of, table_of}
use Rattle.bilateral.specs.Rows.{further_of, no_table, device_of, no_device}
use Rattle.tase_views.specs.OwnTables.{OwnDevice, OwnTable, OwnTables, own_device, own_table}
use Rattle.tase_views.specs.OwnTables.{own_tables, table_in, no_own_table, device_named}
use Rattle.tase_views.specs.OwnTables.{is_selectable}
use Rattle.tase_views.specs.Objects.{control_point, object_named}
use Rattle.tase_views.proofs.OwnDevices.{Each, named_is}

-- the device is a row of the centre
abbrev pub IsRow : CentreRows → OwnDevice → Type 0
IsRow rows d = (i : ℕ) × (i < length rows.devices) × (d.row ≡ device_of rows i)

first_and_rest : (P : Table → Type 0) (table : Table) (further : List Table) → P table
    → All P further → All P (table ∷ further)
first_and_rest P table further this rest zero other within = this
first_and_rest P table further this rest (suc k) other within =
    rest k other (omega (arith, within))

-- no table of a peer names a device that isn't there
controlling : (rows : CentreRows) (peer : ℕ) → IsCentre rows
    → All (IsControlling (length rows.devices)) (variants_of rows peer)
controlling rows peer lawful =
    first_and_rest (IsControlling (length rows.devices)) (table_of rows peer)
    (further_of rows peer)
    (⊎_elim (λ there. lawful.controls peer no_table there)
    (λ past. subst (IsControlling (length rows.devices))
    (sym (get_or_past rows.tables peer no_table past))
    (record {
      known = λ k other within. absurd (omega (arith, within));
      once = λ i k other below within. absurd (omega (arith, within));
      limit = omega arith;
    }))
    (cases_lt peer (length rows.tables))) (lawful.further peer).controls

rows_of : (rows : CentreRows) (controls : List Control)
    → All (λ (control : Control). control.device < length rows.devices) controls
    → Each (IsRow rows) (map (own_device rows) controls)
rows_of rows [] known = tt
rows_of rows (control ∷ controls) known = (
  (control.device, known 0 control (omega arith), refl),
  rows_of rows controls (λ k other within. known (suc k) other (omega (arith, within))),
)

-- what is so of each item of a list, and of what stands where there is none
item_all : (P : OwnTable → Type 0) (tables : List OwnTable) (k : ℕ) → All P tables
    → P no_own_table → P (slice_index_or tables k no_own_table)
item_all P tables k all beyond =
    ⊎_elim (λ within. all k no_own_table within)
    (λ past. subst P (sym (get_or_past tables k no_own_table past)) beyond)
    (cases_lt k (length tables))

tables_rows : (rows : CentreRows) (tables : List Table)
    → All (IsControlling (length rows.devices)) tables
    → All (λ (table : OwnTable). Each (IsRow rows) table.devices) (map (own_table rows) tables)
tables_rows rows tables all k other within =
    let there = subst (λ n. k < n) (length-map tables (own_table rows)) within in
    subst (λ (table : OwnTable). Each (IsRow rows) table.devices)
    (sym (get_or-map (own_table rows) tables k no_table other there))
    (rows_of rows (slice_index_or tables k no_table).controls (all k no_table there).known)

-- the devices of each table are rows
pub table_rows : (rows : CentreRows) (peer n : ℕ) → IsCentre rows
    → Each (IsRow rows) (table_in (own_tables rows peer) n).devices
table_rows rows peer n lawful =
    item_all (λ (table : OwnTable). Each (IsRow rows) table.devices)
    (own_tables rows peer).tables n
    (tables_rows rows (variants_of rows peer) (controlling rows peer lawful)) tt

each_joined : (P : OwnDevice → Type 0) (one other : List OwnDevice) → Each P one → Each P other
    → Each P (one ++ other)
each_joined P [] other first second = second
each_joined P (d ∷ one) other first second = (first.0, each_joined P one other first.1 second)

each_flat : (P : OwnDevice → Type 0) (tables : List OwnTable)
    → All (λ (table : OwnTable). Each P table.devices) tables
    → Each P (flat_map (λ (table : OwnTable). table.devices) tables)
each_flat P [] all = tt
each_flat P (table ∷ tables) all =
    each_joined P table.devices (flat_map (λ (t : OwnTable). t.devices) tables)
    (all 0 table (omega arith))
    (each_flat P tables (λ k other within. all (suc k) other (omega (arith, within))))

found_is : (P : OwnDevice → Type 0) (test : OwnDevice → Bool) (devices : List OwnDevice)
    (d : OwnDevice) → Each P devices → find test devices ≡ Some d → P d × (test d ≡ true)
found_is P test [] d all e = absurd (none-some d e)
found_is P test (x ∷ xs) d all e = by (test x) refl e (found_is P test xs d all.1)
  where
    by : (b : Bool) → test x ≡ b → (if b then Some x else find test xs) ≡ Some d
        → (find test xs ≡ Some d → P d × (test d ≡ true)) → P d × (test d ≡ true)
    by true is f rest =
        let same = same_Some x d f in (subst P same all.0, ap test (sym same) ∙ is)
    by false is f rest = rest f

-- rows of one name are one
same_row : (rows : CentreRows) (a b : OwnDevice) → IsCentre rows → IsRow rows a → IsRow rows b
    → a.row.name ≡ b.row.name → a.row ≡ b.row
same_row rows a b lawful one other same =
    let names = sym (ap (λ r. r.name) one.2) ∙ same ∙ ap (λ r. r.name) other.2 in
    ⊎_elim
    (λ equal. one.2 ∙ ap (device_of rows) equal ∙ sym other.2)
    (λ apart. ⊎_elim
    (λ below. absurd (lawful.device_names one.0 other.0 no_device below other.1 names))
    (λ above. absurd (lawful.device_names other.0 one.0 no_device above one.1 (sym names))) apart)
    (cases_order one.0 other.0)

-- a device of a table is found by its name

found_any : (test : OwnDevice → Bool) (devices : List OwnDevice)
    → list_any test devices ≡ true → is_some (find test devices) ≡ true
found_any test [] e = absurd (false≢true e)
found_any test (d ∷ devices) e = by (test d) e (found_any test devices)
  where
    by : (b : Bool) → (b || list_any test devices) ≡ true
        → (list_any test devices ≡ true → is_some (find test devices) ≡ true)
        → is_some (if b then Some d else find test devices) ≡ true
    by true f rest = refl
    by false f rest = rest f

either : (a b : Bool) → b ≡ true → (a || b) ≡ true
either true b e = refl
either false b e = e

first : (a b : Bool) → a ≡ true → (a || b) ≡ true
first true b e = refl
first false b e = absurd (false≢true e)

any_table : (test : OwnDevice → Bool) (tables : List OwnTable) (k : ℕ)
    → list_any test (slice_index_or tables k no_own_table).devices ≡ true
    → list_any test (flat_map (λ (table : OwnTable). table.devices) tables) ≡ true
any_table test [] k e = absurd (false≢true e)
any_table test (table ∷ tables) zero e =
    list_any-append test table.devices (flat_map (λ (t : OwnTable). t.devices) tables)
    ∙ first (list_any test table.devices) _ e
any_table test (table ∷ tables) (suc k) e =
    list_any-append test table.devices (flat_map (λ (t : OwnTable). t.devices) tables)
    ∙ either (list_any test table.devices) _ (any_table test tables k e)

each_any : (all : List OwnDevice) (devices : List OwnDevice)
    → ((test : OwnDevice → Bool) → list_any test devices ≡ true → list_any test all ≡ true)
    → Each (λ d. list_any (λ (e : OwnDevice). bytes_eq e.row.name d.row.name) all ≡ true) devices
each_any all [] more = tt
each_any all (d ∷ devices) more = (
  more (λ (e : OwnDevice). bytes_eq e.row.name d.row.name)
      (first (bytes_eq d.row.name d.row.name) _ ((bytes_eq-Decides d.row.name d.row.name).1 refl)),
  each_any all devices (λ test e. more test (either (test d) _ e)),
)

pub each_as : (P Q : OwnDevice → Type 0) (devices : List OwnDevice)
    → ((d : OwnDevice) → P d → Q d) → Each P devices → Each Q devices
each_as P Q [] so all = tt
each_as P Q (d ∷ devices) so all = (so d all.0, each_as P Q devices so all.1)

-- each device of each table is one that the tables name
pub table_named : (tables : OwnTables) (n : ℕ)
    → Each (λ d. is_some (device_named tables d.row.name) ≡ true) (table_in tables n).devices
table_named tables n =
    let devices = (table_in tables n).devices in
    each_as
    (λ d. list_any (λ (e : OwnDevice). bytes_eq e.row.name d.row.name) devices ≡ true)
    (λ d. is_some (device_named tables d.row.name) ≡ true) devices
    (λ d there. found_any (λ (e : OwnDevice). bytes_eq e.row.name d.row.name)
    (flat_map (λ (t : OwnTable). t.devices) tables.tables)
    (any_table (λ (e : OwnDevice). bytes_eq e.row.name d.row.name) tables.tables n there))
    (each_any devices devices (λ test e. e))

pub point_named : (rows : CentreRows) (peer n : ℕ) (name : ObjectName) (d : OwnDevice)
    → object_named (table_in (own_tables rows peer) n) name ≡ Some (control_point d)
    → is_some (device_named (own_tables rows peer) d.row.name) ≡ true
point_named rows peer n name d is =
    let tables = own_tables rows peer in
    named_is (λ d. is_some (device_named tables d.row.name) ≡ true) (table_in tables n) name
    (control_point d) (table_named tables n) is

-- the device of a control point is a row
pub point_row : (rows : CentreRows) (peer n : ℕ) (name : ObjectName) (d : OwnDevice)
    → IsCentre rows
    → object_named (table_in (own_tables rows peer) n) name ≡ Some (control_point d)
    → IsRow rows d
point_row rows peer n name d lawful is =
    named_is (IsRow rows) (table_in (own_tables rows peer) n) name (control_point d)
    (table_rows rows peer n lawful) is

-- and whether it is direct is what the tables have of its name
pub point_selectable : (rows : CentreRows) (peer n : ℕ) (name : ObjectName) (d : OwnDevice)
    → IsCentre rows
    → object_named (table_in (own_tables rows peer) n) name ≡ Some (control_point d)
    → is_selectable (own_tables rows peer) d.row.name ≡ not d.row.direct
point_selectable rows peer n name d lawful is =
    by (device_named tables d.row.name) refl (point_named rows peer n name d is)
  where
    tables : OwnTables
    tables = own_tables rows peer

    by : (found : Option OwnDevice) → device_named (own_tables rows peer) d.row.name ≡ found
        → is_some (device_named (own_tables rows peer) d.row.name) ≡ true
        → is_selectable (own_tables rows peer) d.row.name ≡ not d.row.direct
    by None e there = absurd (false≢true (sym (ap (λ (o : Option OwnDevice). is_some o) e) ∙ there))
    by (Some found) e there =
        let all = each_flat (IsRow rows) (own_tables rows peer).tables
        (tables_rows rows (variants_of rows peer) (controlling rows peer lawful)) in
        let its = found_is (IsRow rows) (λ (x : OwnDevice). bytes_eq x.row.name d.row.name)
        (flat_map (λ (t : OwnTable). t.devices) (own_tables rows peer).tables) found all e in
        let row = same_row rows found d lawful its.0 (point_row rows peer n name d lawful is)
        ((bytes_eq-Decides found.row.name d.row.name).0 its.1) in
        ap (λ (o : Option OwnDevice). option_map_or (λ x. not x.row.direct) o false) e
        ∙ ap (λ r. not r.direct) row
