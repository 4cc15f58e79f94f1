-- A device that a table names is one that its tables have as not direct exactly where it isn't
-- direct.
use Rattle.std.proofs.Common.{◌≡◌, ℕ, suc, Bool, true, false, not, if◌then◌else◌, List, []}
use Rattle.std.proofs.Common.{◌∷◌, ◌++◌, Option, Some, None, is_some, refl, sym, ap, subst, ◌∙◌}
use Rattle.std.proofs.Common.{⊎_elim, bytes_eq}
use Rattle.std.specs.Prelude.{find, flat_map, slice_index_or}
use Rattle.std.specs.Option.{option_map_or}
use Rattle.std.proofs.lemmas.Bool.{false≢true, cases_order}
use Rattle.std.proofs.lemmas.Option.{same_Some, none-some}
use Rattle.std.proofs.lemmas.Slice.Eq.{bytes_eq-Decides}
use Rattle.bilateral.specs.Rows.{CentreRows, IsCentre, device_of, no_device}
use Rattle.tase_views.specs.OwnTables.{OwnDevice, OwnTable, OwnTables, own_tables, table_in}
use Rattle.tase_views.specs.OwnTables.{no_own_table, device_named, is_selectable}
use Rattle.tase_views.proofs.OwnDevices.{Each}
use Rattle.tase_views.proofs.DeviceRows.{IsRow, table_rows, table_named, each_as}

-- each device of each table is selectable by its name, unless it is direct
abbrev pub AreSelectable : OwnTables → Type 0
AreSelectable tables =
    (n : ℕ) → Each (λ d. is_selectable tables d.row.name ≡ not d.row.direct)
    (table_in tables n).devices

joined : (P : OwnDevice → Type 0) (one other : List OwnDevice) → Each P one → Each P other
    → Each P (one ++ other)
joined P [] other first second = second
joined P (d ∷ one) other first second = (first.0, joined P one other first.1 second)

pub flat : (P : OwnDevice → Type 0) (tables : List OwnTable)
    → ((k : ℕ) → Each P (slice_index_or tables k no_own_table).devices)
    → Each P (flat_map (λ (table : OwnTable). table.devices) tables)
flat P [] all = tt
flat P (table ∷ tables) all =
    joined P table.devices (flat_map (λ (t : OwnTable). t.devices) tables) (all 0)
    (flat P tables (λ k. all (suc k)))

pub found_is : (P : OwnDevice → Type 0) (test : OwnDevice → Bool) (devices : List OwnDevice)
    (d : OwnDevice) → Each P devices → find test devices ≡ Some d → P d × (test d ≡ true)
found_is P test [] d all e = absurd (none-some d e)
found_is P test (x ∷ xs) d all e = by (test x) refl e (found_is P test xs d all.1)
  where
    by : (b : Bool) → test x ≡ b → (if b then Some x else find test xs) ≡ Some d
        → (find test xs ≡ Some d → P d × (test d ≡ true)) → P d × (test d ≡ true)
    by true is f rest =
        let same = same_Some x d f in (subst P same all.0, ap test (sym same) ∙ is)
    by false is f rest = rest f

same_row : (rows : CentreRows) (a b : OwnDevice) → IsCentre rows → IsRow rows a → IsRow rows b
    → a.row.name ≡ b.row.name → a.row ≡ b.row
same_row rows a b lawful one other same =
    let names = sym (ap (λ r. r.name) one.2) ∙ same ∙ ap (λ r. r.name) other.2 in
    ⊎_elim
    (λ equal. one.2 ∙ ap (device_of rows) equal ∙ sym other.2)
    (λ apart. ⊎_elim
    (λ below. absurd (lawful.device_names one.0 other.0 no_device below other.1 names))
    (λ above. absurd (lawful.device_names other.0 one.0 no_device above one.1 (sym names))) apart)
    (cases_order one.0 other.0)

both : (P Q : OwnDevice → Type 0) (devices : List OwnDevice) → Each P devices → Each Q devices
    → Each (λ d. P d × Q d) devices
both P Q [] one other = tt
both P Q (d ∷ devices) one other =
    ((one.0, other.0), both P Q devices one.1 other.1)

one_selectable : (rows : CentreRows) (peer : ℕ) → IsCentre rows → (d : OwnDevice)
    → is_some (device_named (own_tables rows peer) d.row.name) ≡ true → IsRow rows d
    → is_selectable (own_tables rows peer) d.row.name ≡ not d.row.direct
one_selectable rows peer lawful d named row =
    by (device_named (own_tables rows peer) d.row.name) refl named
  where
    by : (found : Option OwnDevice) → device_named (own_tables rows peer) d.row.name ≡ found
        → is_some found ≡ true
        → option_map_or (λ (x : OwnDevice). not x.row.direct) found false ≡ not d.row.direct
    by None e there = absurd (false≢true there)
    by (Some found) e there =
        let its = found_is (IsRow rows) (λ (x : OwnDevice). bytes_eq x.row.name d.row.name)
        (flat_map (λ (t : OwnTable). t.devices) (own_tables rows peer).tables) found
        (flat (IsRow rows) (own_tables rows peer).tables (λ k. table_rows rows peer k lawful)) e in
        ap (λ r. not r.direct)
        (same_row rows found d lawful its.0 row
        ((bytes_eq-Decides found.row.name d.row.name).0 its.1))

pub selectable : (rows : CentreRows) (peer : ℕ) → IsCentre rows
    → AreSelectable (own_tables rows peer)
selectable rows peer lawful n =
    let devices = (table_in (own_tables rows peer) n).devices in
    each_as (λ d. (is_some (device_named (own_tables rows peer) d.row.name) ≡ true)
    × IsRow rows d)
    (λ d. is_selectable (own_tables rows peer) d.row.name ≡ not d.row.direct) devices
    (λ d its. one_selectable rows peer lawful d its.0 its.1)
    (both (λ d. is_some (device_named (own_tables rows peer) d.row.name) ≡ true) (IsRow rows)
    devices (table_named (own_tables rows peer) n) (table_rows rows peer n lawful))
