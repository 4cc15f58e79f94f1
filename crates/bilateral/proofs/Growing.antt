-- The lines of a lawful centre stand one behind another, and say its rows.
use Rattle.std.proofs.Common.{◌≡◌, ◌≢◌, ℕ, ◌<◌, ◌≤◌, Bool, true, false, not}
use Rattle.std.proofs.Common.{◌&&◌, ◌||◌, ◌==◌, eqb, leb, List, [], ◌∷◌, ◌++◌, length, map}
use Rattle.std.proofs.Common.{get_or, set, All, AllPairs, Option, Some, None, is_some, unwrap_or}
use Rattle.std.proofs.Common.{position}
use Rattle.std.proofs.Common.{refl, sym, ap, subst, ◌∙◌, inl, inr, arith, bytes_eq, append_assoc}
use Rattle.std.specs.Prelude.{is_none, zip}
use Rattle.std.specs.Option.{option_eq}
use Rattle.std.specs.List.{flat_map}
use Rattle.std.specs.Cmp.Lexicographic.{bytes_decides}
use Rattle.std.proofs.lemmas.Bool.{cases_Bool, ne_eqb, eqb-true, and_from}
use Rattle.std.proofs.lemmas.Bool.{le-leb, lt-leb, false≢true}
use Rattle.std.proofs.lemmas.List.{append-nil, length-append, length_push, get_or_append_left}
use Rattle.std.proofs.lemmas.List.{map-append, length-map}
use Rattle.std.proofs.lemmas.List.{get_or_at, get_or_push, set_at}
use Rattle.bilateral.specs.declared.limit_rows.LimitRows.{LimitRows}
use Rattle.bilateral.specs.declared.line.TableLine.{TableLine}
use Rattle.bilateral.specs.declared.line.TableLine.TheVariants.{Point, Device, Peer, Slots, Sets}
use Rattle.bilateral.specs.declared.line.TableLine.TheVariants.{Pending, Variant}
use Rattle.bilateral.specs.declared.rows.PointRow.{PointRow}
use Rattle.bilateral.specs.declared.rows.DeviceRow.{DeviceRow}
use Rattle.bilateral.specs.declared.rows.See.{See as SeeRow}
use Rattle.bilateral.specs.declared.rows.Control.{Control as ControlRow}
use Rattle.bilateral.specs.declared.rows.Table.{Table}
use Rattle.bilateral.specs.declared.rows.TheConstants.{DEVICE_LIMIT, PEER_LIMIT, POINT_LIMIT}
use Rattle.sbo_device.specs.declared.device.TheConstants.{SPAN_LIMIT}
use Rattle.bilateral.specs.declared.rows.TheConstants.{SEE_LIMIT, VARIANT_LIMIT}
use Rattle.bilateral.specs.Rows.{CentreRows, IsCentre, IsTable, IsControlling, IsDevice, no_table}
use Rattle.bilateral.specs.Rows.{no_point, no_device, AreVariants, IsVariant, new_variant}
use Rattle.bilateral.specs.Rows.{further_of}
use Rattle.bilateral.specs.Rows.{place_of_see, place_of_control}
use Rattle.bilateral.specs.Reading.{SoFar, row_fault, first_reason, with_row, with_last, last_table}
use Rattle.bilateral.specs.Reading.{current_table, varied}
use Rattle.bilateral.specs.Reading.{with_see, with_control, with_slots, with_sets, with_pending}
use Rattle.bilateral.specs.Reading.{nothing_given, is_wrong_span, at_start, seen_in_last}
use Rattle.bilateral.specs.Reading.{controlled_in_last}
use Rattle.bilateral.specs.Reasons.{has_see, has_control, has_all_variants}
use Rattle.bilateral.specs.Spelling.{AllStand, told, PeerTables}
use Rattle.bilateral.specs.Writing.{empty_table, see_line_of, control_line_of, table_lines}
use Rattle.bilateral.specs.Writing.{centre_lines, row_lines, variant_lines, peer_lines}
use Rattle.bilateral.proofs.Positions.{absent, found, position-push_here}
use Rattle.bilateral.proofs.Told.{told-push, so_far_by, given_by, Keyed, own_ones, further_ones}
use Rattle.bilateral.proofs.Keyed.{keyed-push, keyed-start}
use Rattle.bilateral.proofs.Lasts.{rows_by, last_own_is, with_last_own, last_further_is}
use Rattle.bilateral.proofs.Lasts.{with_last_further}

-- lines that can be taken one after another, from rows to rows
abbrev pub Grows : SoFar → List TableLine → SoFar → Type 0
Grows start [] end = start ≡ end
Grows start (line ∷ more) end = (row_fault start line ≡ None) × Grows (with_row start line) more end

pub Grows-append : (start middle end : SoFar) (first second : List TableLine)
    → Grows start first middle → Grows middle second end → Grows start (first ++ second) end
Grows-append start middle end [] second a b = subst (λ s. Grows s second end) (sym a) b
Grows-append start middle end (line ∷ first) second a b =
    (a.0, Grows-append (with_row start line) middle end first second a.1 b)

Grows-line : (start middle end : SoFar) (line : TableLine) (more : List TableLine)
    → row_fault start line ≡ None → with_row start line ≡ middle → Grows middle more end
    → Grows start (line ∷ more) end
Grows-line start middle end line more taken same later =
    (taken, subst (λ s. Grows s more end) (sym same) later)

-- such lines stand, and the rows at the end are what they say
pub stand : (before said : List TableLine) (end : SoFar) → Keyed before
    → Grows (told before) said end → AllStand before said × (told (before ++ said) ≡ end)
stand before [] end keyed grows = (tt, ap told (append-nil before) ∙ grows)
stand before (line ∷ more) end keyed grows =
    let rest = stand (before ++ line ∷ []) more end (keyed-push before line keyed grows.0)
    (subst (λ s. Grows s more end) (sym (told-push before line keyed grows.0)) grows.1) in
    ((grows.0, rest.0), ap told (sym (append_assoc before (line ∷ []) more)) ∙ rest.1)

no_fault : (misplaced unknown again too_much : Bool) → misplaced ≡ false → unknown ≡ false
    → again ≡ false → too_much ≡ false → first_reason misplaced unknown again too_much ≡ None
no_fault true unknown again too_much a b c d = absurd cc
no_fault false true again too_much a b c d = absurd cc
no_fault false false true too_much a b c d = absurd cc
no_fault false false false true a b c d = absurd cc
no_fault false false false false a b c d = refl

-- a test that passes for equals alone
abbrev Decides : {V : Type 0} → (V → V → Bool) → Type 0
Decides {V} test = (a b : V) → test a b ≡ true → a ≡ b

fails : {V : Type 0} (test : V → V → Bool) → Decides test → (a b : V) → a ≢ b → test a b ≡ false
fails test decides a b apart =
    elim (cases_Bool (test a b))
    [ inl same ↦ absurd (apart (decides a b same)) | inr other ↦ other ]

-- a row of a list, behind those before it
module _ {X : Type 0} (rows done : List X) (x : X) (more : List X)
    (parts : rows ≡ done ++ x ∷ more) where
  -- what differs from all others isn't found among those before it
  absent_before : {V : Type 0} (f : X → V) (test : V → V → Bool) → Decides test
      → AllPairs (λ a b. f a ≢ f b) rows → position (λ r. test (f r) (f x)) done ≡ None
  absent_before f test decides pairs =
      let apart = subst (AllPairs (λ a b. f a ≢ f b)) parts pairs in
      absent (λ r. test (f r) (f x)) done
      (λ k d below. fails test decides (f (get_or done k d)) (f x)
      (λ same. apart k (length done) d below (omega (arith, length-append done (x ∷ more)))
      (ap f (get_or_append_left done (x ∷ more) d k below) ∙ same
      ∙ sym (ap f (get_or_at done x more d (length done) refl)))))

  -- it is as all are
  as_all : (P : X → Type 0) → All P rows → P x
  as_all P all =
      subst P (get_or_at done x more x (length done) refl)
      (subst (All P) parts all (length done) x (omega (arith, length-append done (x ∷ more))))

  -- there is room for it
  has_room : (limit : ℕ) → length rows ≤ limit → leb limit (length done) ≡ false
  has_room limit few =
      let size : length rows ≡ length (done ++ x ∷ more) = ap length parts in
      lt-leb limit (length done) (omega (arith, length-append done (x ∷ more), few))

-- rows that lines add one after another
each_grows : {X : Type 0} (after : List X → SoFar) (line : X → TableLine) (rows : List X)
    → ((done : List X) (x : X) (more : List X) → rows ≡ done ++ x ∷ more
    → (row_fault (after done) (line x) ≡ None)
    × (with_row (after done) (line x) ≡ after (done ++ x ∷ [])))
    → (done more : List X) → rows ≡ done ++ more → Grows (after done) (map line more) (after rows)
each_grows after line rows each done [] parts = ap after (sym (parts ∙ append-nil done))
each_grows after line rows each done (x ∷ more) parts =
    let here = each done x more parts in
    Grows-line (after done) (after (done ++ x ∷ [])) (after rows) (line x) (map line more) here.0
    here.1
    (each_grows after line rows each (done ++ x ∷ []) more
    (parts ∙ sym (append_assoc done (x ∷ []) more)))

same_octets : Decides bytes_eq
same_octets a b same = (bytes_decides a b).0 same

same_numbers : Decides (λ a b. eqb a b)
same_numbers a b same = eqb-true a b same

same_titles : Decides (option_eq bytes_eq)
same_titles None None same = refl
same_titles None (Some b) same = absurd (false≢true same)
same_titles (Some a) None same = absurd (false≢true same)
same_titles (Some a) (Some b) same = ap Some (same_octets a b same)

-- the points of a centre, one after another
points_grow : (points : List PointRow) → AllPairs (λ a b. a.name ≢ b.name) points
    → length points ≤ POINT_LIMIT
    → Grows at_start (map Point points) (so_far_by points [] [] [] 0 nothing_given)
points_grow points names limit =
    each_grows (λ ps. so_far_by ps [] [] [] 0 nothing_given) Point points (λ done point more parts. (
      no_fault _ _ _ _ refl refl
          (ap (λ o. is_some o || false)
          (absent_before points done point more parts (λ r. r.name) bytes_eq same_octets names))
          (has_room points done point more parts POINT_LIMIT limit),
      refl,
    )) [] points refl

right_span : (direct : Bool) (span : ℕ) → (direct ≡ false → 1 ≤ span) → span ≤ SPAN_LIMIT
    → (not direct && not (leb 1 span && leb span SPAN_LIMIT)) ≡ false
right_span true span some small = refl
right_span false span some small =
    ap not (and_from (leb 1 span) (leb span SPAN_LIMIT) (le-leb 1 span (some refl))
    (le-leb span SPAN_LIMIT small))

either_absent : (a b : Option ℕ) → a ≡ None → b ≡ None → (is_some a || is_some b) ≡ false
either_absent a b first second =
    ap (λ o. is_some o || is_some b) first ∙ ap (λ o. false || is_some o) second

either_false : (a b : Bool) → a ≡ false → b ≡ false → (a || b) ≡ false
either_false a b first second = ap (λ x. x || b) first ∙ ap (λ x. false || x) second

-- the devices of a centre, one after another
devices_grow : (points : List PointRow) (devices : List DeviceRow)
    → AllPairs (λ a b. a.name ≢ b.name) devices → All IsDevice devices
    → All (λ device. All (λ point. point.name ≢ device.name) points) devices
    → length devices ≤ DEVICE_LIMIT
    → Grows (so_far_by points [] [] [] 0 nothing_given) (map Device devices)
    (so_far_by points devices [] [] 0 nothing_given)
devices_grow points devices names lawful apart limit =
    each_grows (λ ds. so_far_by points ds [] [] 0 nothing_given) Device devices
    (λ done device more parts.
    let is = as_all devices done device more parts IsDevice lawful in
    let other =
    as_all devices done device more parts
    (λ (d : DeviceRow). All (λ (point : PointRow). point.name ≢ d.name) points) apart in (
      no_fault _ _ _ _ refl refl
          (either_absent _ _
          (absent (λ r. bytes_eq r.name device.name) points
          (λ k d below. fails bytes_eq same_octets (get_or points k d).name device.name
          (other k d below)))
          (absent_before devices done device more parts (λ r. r.name) bytes_eq same_octets names))
          (ap (λ b. b || is_wrong_span device)
          (has_room devices done device more parts DEVICE_LIMIT limit)
          ∙ right_span device.direct device.span is.some_span is.span),
      refl,
    )) [] devices refl

-- a table with these rows and limits, and all else of another
abbrev with_sees : Table → List SeeRow → Table
with_sees table sees = record table { sees = sees }

abbrev with_controls : Table → List ControlRow → Table
with_controls table controls = record table { controls = controls }

-- the only row with a name
found_name : {X : Type 0} (name : X → List ℕ) (rows : List X) (i : ℕ) (d : X) → i < length rows
    → AllPairs (λ a b. name a ≢ name b) rows
    → position (λ r. bytes_eq (name r) (name (get_or rows i d))) rows ≡ Some i
found_name name rows i d below pairs =
    found (λ r. bytes_eq (name r) (name (get_or rows i d))) rows i d below
    ((bytes_decides (name (get_or rows i d)) (name (get_or rows i d))).1 refl)
    (λ k early. fails bytes_eq same_octets (name (get_or rows k d)) (name (get_or rows i d))
    (pairs k i d early below))

abbrev see_of : ℕ → SeeRow → SeeRow
see_of point see = record see { point = point }

abbrev control_of : ℕ → ControlRow → ControlRow
control_of device row = record row { device = device }

-- a table without rows, and with all else of another
abbrev bare : Table → Table
bare table = with_controls (with_sees table []) []

-- rows in which a table is the last of a peer, and may be another one
record Holds (points : List PointRow) (devices : List DeviceRow) (tables : Table → List Table)
    (variants : Table → List (List Table)) (peer : ℕ) : Type 0 where
  some : (t : Table) → (length (tables t) == 0) ≡ false
  current : (t : Table)
      → last_table (rows_by points devices (tables t) (variants t)) peer ≡ t
  changed : (t new : Table)
      → with_last (rows_by points devices (tables t) (variants t)) peer new
      ≡ rows_by points devices (tables new) (variants new)

-- the lines of such a table, one after another
module _ (rows : CentreRows) (names : AllPairs (λ a b. a.name ≢ b.name) rows.points)
    (device_names : AllPairs (λ a b. a.name ≢ b.name) rows.devices) (tables : Table → List Table)
    (variants : Table → List (List Table)) (peer : ℕ)
    (holds : Holds rows.points rows.devices tables variants peer) where
  last_changed : (t : Table) (g : Table → Table)
      → with_last (rows_by rows.points rows.devices (tables t) (variants t)) peer
      (g (last_table (rows_by rows.points rows.devices (tables t) (variants t)) peer))
      ≡ rows_by rows.points rows.devices (tables (g t)) (variants (g t))
  last_changed t g =
      ap (λ x. with_last (rows_by rows.points rows.devices (tables t) (variants t)) peer (g x))
      (holds.current t)
      ∙ holds.changed t (g t)

  sees_grow : (table : Table) (given : LimitRows) (sees : List SeeRow)
      → All (λ see. see.point < length rows.points) sees
      → AllPairs (λ a b. a.point ≢ b.point) sees → length sees ≤ SEE_LIMIT
      → Grows
      (so_far_by rows.points rows.devices (tables (with_sees table []))
      (variants (with_sees table [])) peer given)
      (map (see_line_of rows) sees)
      (so_far_by rows.points rows.devices (tables (with_sees table sees))
      (variants (with_sees table sees)) peer given)
  sees_grow table given sees known once limit =
      let points = rows.points in
      each_grows (λ ss. so_far_by rows.points rows.devices (tables (with_sees table ss))
      (variants (with_sees table ss)) peer given)
      (see_line_of rows) sees (λ before see more parts.
      let own = with_sees table before in
      let start = so_far_by rows.points rows.devices (tables own) (variants own) peer given in
      let here = found_name (λ (r : PointRow). r.name) points see.point no_point
      (as_all sees before see more parts (λ (s : SeeRow). s.point < length points) known) names in (
        no_fault _ _ _ _ (holds.some own) (ap is_none here)
            (ap (has_see (current_table start)) here
            ∙ ap (λ t. is_some (place_of_see t see.point)) (holds.current own)
            ∙ ap is_some
            (absent_before sees before see more parts (λ (s : SeeRow). s.point) (λ a b. eqb a b)
            same_numbers once))
            (ap (λ (t : Table). leb SEE_LIMIT (length t.sees)) (holds.current own)
            ∙ has_room sees before see more parts SEE_LIMIT limit),
        ap (λ o. record start {
          rows = seen_in_last start.rows peer (see_of (unwrap_or o 0) see);
        }) here
            ∙ ap (λ rs. record start { rows = rs }) (last_changed own (λ t. with_see t see)),
      )) [] sees refl

  controls_grow : (table : Table) (given : LimitRows) (controls : List ControlRow)
      → All (λ row. row.device < length rows.devices) controls
      → AllPairs (λ a b. a.device ≢ b.device) controls → length controls ≤ DEVICE_LIMIT
      → Grows
      (so_far_by rows.points rows.devices (tables (with_controls table []))
      (variants (with_controls table [])) peer given)
      (map (control_line_of rows) controls)
      (so_far_by rows.points rows.devices (tables (with_controls table controls))
      (variants (with_controls table controls)) peer given)
  controls_grow table given controls known once limit =
      let devices = rows.devices in
      each_grows (λ ks. so_far_by rows.points rows.devices (tables (with_controls table ks))
      (variants (with_controls table ks)) peer given)
      (control_line_of rows) controls (λ before row more parts.
      let own = with_controls table before in
      let start = so_far_by rows.points rows.devices (tables own) (variants own) peer given in
      let here = found_name (λ (r : DeviceRow). r.name) devices row.device no_device
      (as_all controls before row more parts (λ (s : ControlRow). s.device < length devices) known)
      device_names in (
        no_fault _ _ _ _ (holds.some own) (ap is_none here)
            (ap (has_control (current_table start)) here
            ∙ ap (λ t. is_some (place_of_control t row.device)) (holds.current own)
            ∙ ap is_some
            (absent_before controls before row more parts (λ (s : ControlRow). s.device)
            (λ a b. eqb a b) same_numbers once))
            (ap (λ (t : Table). leb DEVICE_LIMIT (length t.controls)) (holds.current own)
            ∙ has_room controls before row more parts DEVICE_LIMIT limit),
        ap (λ o. record start {
          rows = controlled_in_last start.rows peer (control_of (unwrap_or o 0) row);
        }) here
            ∙ ap (λ rs. record start { rows = rs }) (last_changed own (λ t. with_control t row)),
      )) [] controls refl

  rows_grow : (table : Table) (given : LimitRows) → IsTable (length rows.points) table
      → IsControlling (length rows.devices) table
      → Grows
      (so_far_by rows.points rows.devices (tables (bare table)) (variants (bare table)) peer given)
      (row_lines rows table)
      (so_far_by rows.points rows.devices (tables table) (variants table) peer given)
  rows_grow table given is controlling =
      let seen = with_controls table [] in
      Grows-append
      (so_far_by rows.points rows.devices (tables (bare table)) (variants (bare table)) peer given)
      (so_far_by rows.points rows.devices (tables seen) (variants seen) peer given)
      (so_far_by rows.points rows.devices (tables table) (variants table) peer given)
      (map (see_line_of rows) table.sees) (map (control_line_of rows) table.controls)
      (sees_grow seen given table.sees is.known is.once is.limit)
      (controls_grow table given table.controls controlling.known controlling.once
      controlling.limit)

  -- the numbers of transfer sets and data sets, which the table wasn't given yet
  numbers_grow : (table : Table) (slots sets : ℕ) (more : List TableLine) (end : SoFar)
      → Grows
      (so_far_by rows.points rows.devices (tables (with_sets (with_slots table slots) sets))
      (variants (with_sets (with_slots table slots) sets)) peer (given_by true true false))
      more end
      → Grows
      (so_far_by rows.points rows.devices (tables table) (variants table) peer nothing_given)
      (Slots (Some slots) ∷ Sets (Some sets) ∷ more) end
  numbers_grow table slots sets more end later =
      let slotted = with_slots table slots in
      let setted = with_sets slotted sets in
      Grows-line
      (so_far_by rows.points rows.devices (tables table) (variants table) peer nothing_given)
      (so_far_by rows.points rows.devices (tables slotted) (variants slotted) peer
      (given_by true false false)) end (Slots (Some slots)) (Sets (Some sets) ∷ more)
      (no_fault _ _ _ _ (holds.some table) refl refl refl)
      (ap (λ rs. record { rows = rs; peer = peer; given = given_by true false false })
      (last_changed table (λ t. with_slots t slots)))
      (Grows-line
      (so_far_by rows.points rows.devices (tables slotted) (variants slotted) peer
      (given_by true false false))
      (so_far_by rows.points rows.devices (tables setted) (variants setted) peer
      (given_by true true false)) end (Sets (Some sets)) more
      (no_fault _ _ _ _ (holds.some slotted) refl refl refl)
      (ap (λ rs. record { rows = rs; peer = peer; given = given_by true true false })
      (last_changed slotted (λ t. with_sets t sets))) later)

-- the own tables and the further ones of the peers done, and those of the peer that is told now
module _ (rows : CentreRows) (lawful : IsCentre rows) (done : List PeerTables) (own : Table)
    (further : List Table) (more : List PeerTables)
    (own_parts : rows.tables ≡ own_ones done ++ own ∷ own_ones more)
    (further_parts : rows.variants ≡ further_ones done ++ further ∷ further_ones more) where
  variants_long : length (further_ones done) ≡ length (own_ones done)
  variants_long =
      omega (
        arith,
        length-map done (λ (p : PeerTables). p.0),
        length-map done (λ (p : PeerTables). p.1),
      )

  some_tables : (table : Table) → (length (own_ones done ++ table ∷ []) == 0) ≡ false
  some_tables table =
      ne_eqb (length (own_ones done ++ table ∷ [])) 0
      (λ none. absurd (omega (arith, length_push (own_ones done) table, none)))

  own_holds : Holds rows.points rows.devices (λ t. own_ones done ++ t ∷ [])
      (λ t. further_ones done ++ [] ∷ []) (length (own_ones done))
  own_holds = record {
    some = some_tables;
    current =
        last_own_is rows.points rows.devices (own_ones done) (further_ones done)
        (length (own_ones done)) refl variants_long;
    changed =
        with_last_own rows.points rows.devices (own_ones done) (further_ones done)
        (length (own_ones done)) refl variants_long;
  }

  is_table : IsTable (length rows.points) own
  is_table =
      as_all rows.tables (own_ones done) own (own_ones more) own_parts
      (IsTable (length rows.points)) lawful.tables

  is_controlling : IsControlling (length rows.devices) own
  is_controlling =
      as_all rows.tables (own_ones done) own (own_ones more) own_parts
      (IsControlling (length rows.devices)) lawful.controls

  are_variants : AreVariants (length rows.points) (length rows.devices) own further
  are_variants =
      subst (λ f. AreVariants (length rows.points) (length rows.devices) own f)
      (ap (λ vs. get_or vs (length (own_ones done)) []) further_parts
      ∙ get_or_at (further_ones done) further (further_ones more) [] (length (own_ones done))
      variants_long)
      (subst
      (λ o. AreVariants (length rows.points) (length rows.devices) o
      (further_of rows (length (own_ones done))))
      (ap (λ ts. get_or ts (length (own_ones done)) no_table) own_parts
      ∙ get_or_at (own_ones done) own (own_ones more) no_table (length (own_ones done)) refl)
      (lawful.further (length (own_ones done))))

  -- the peer's own line, and those of its table
  peer_free : (p : ℕ) (given : LimitRows)
      → row_fault
      (so_far_by rows.points rows.devices (own_ones done) (further_ones done) p given)
      (Peer (empty_table own)) ≡ None
  peer_free p given =
      no_fault _ _ _ _ refl refl
      (either_absent _ _
      (absent_before rows.tables (own_ones done) own (own_ones more) own_parts
      (λ (t : Table). t.key) bytes_eq same_octets lawful.keys)
      (absent_before rows.tables (own_ones done) own (own_ones more) own_parts
      (λ (t : Table). t.title) (option_eq bytes_eq) same_titles lawful.titles))
      (has_room rows.tables (own_ones done) own (own_ones more) own_parts PEER_LIMIT
      lawful.peer_limit)

  own_grows : (p : ℕ) (given : LimitRows)
      → Grows (so_far_by rows.points rows.devices (own_ones done) (further_ones done) p given)
      (table_lines rows own)
      (so_far_by rows.points rows.devices (own_ones done ++ own ∷ [])
      (further_ones done ++ [] ∷ []) (length (own_ones done)) (given_by true true true))
  own_grows p given =
      let new = empty_table own in
      let numbered = with_sets (with_slots new own.slots) own.sets in
      let k = length (own_ones done) in
      let tables = λ (t : Table). own_ones done ++ t ∷ [] in
      let variants = further_ones done ++ [] ∷ [] in
      let end = so_far_by rows.points rows.devices (own_ones done ++ own ∷ []) variants k
      (given_by true true true) in (
        peer_free p given,
        numbers_grow rows lawful.names lawful.device_names tables (λ t. variants) k own_holds new
            own.slots own.sets (Pending (Some own.pending) ∷ row_lines rows own) end
            (Grows-line
            (so_far_by rows.points rows.devices (own_ones done ++ numbered ∷ []) variants k
            (given_by true true false))
            (so_far_by rows.points rows.devices (own_ones done ++ bare own ∷ []) variants k
            (given_by true true true)) end (Pending (Some own.pending)) (row_lines rows own)
            (no_fault _ _ _ _
            (either_false _ _ (some_tables numbered)
            (ap (λ f. not (length f == 0))
            (get_or_push (further_ones done) [] [] k variants_long))) refl refl refl)
            (ap (λ rs. record { rows = rs; peer = k; given = given_by true true true })
            (last_changed rows lawful.names lawful.device_names tables (λ t. variants) k own_holds
            numbered (λ t. with_pending t own.pending)))
            (rows_grow rows lawful.names lawful.device_names tables (λ t. variants) k own_holds own
            (given_by true true true) is_table is_controlling)),
      )

  -- a variant's line, and those of its table
  module _ (before : List Table) (table : Table) (later : List Table)
      (parts : further ≡ before ++ table ∷ later) where
    further_holds : Holds rows.points rows.devices (λ t. own_ones done ++ own ∷ [])
        (λ t. further_ones done ++ (before ++ t ∷ []) ∷ []) (length (own_ones done))
    further_holds = record {
      some = λ t. some_tables own;
      current = λ t.
          last_further_is
          (rows_by rows.points rows.devices (own_ones done ++ own ∷ [])
          (further_ones done ++ (before ++ t ∷ []) ∷ [])) (length (own_ones done)) before t
          (get_or_push (further_ones done) (before ++ t ∷ []) [] (length (own_ones done))
          variants_long);
      changed = λ t new.
          with_last_further
          (rows_by rows.points rows.devices (own_ones done ++ own ∷ [])
          (further_ones done ++ (before ++ t ∷ []) ∷ [])) (length (own_ones done)) before t new
          (get_or_push (further_ones done) (before ++ t ∷ []) [] (length (own_ones done))
          variants_long)
          ∙ ap (rows_by rows.points rows.devices (own_ones done ++ own ∷ []))
          (set_at (further_ones done) (before ++ t ∷ []) [] (before ++ new ∷ [])
          (length (own_ones done)) variants_long);
    }

    alike : IsVariant own table
    alike = as_all further before table later parts (IsVariant own) are_variants.alike

    key_found : position (λ (t : Table). bytes_eq t.key table.key) (own_ones done ++ own ∷ [])
        ≡ Some (length (own_ones done))
    key_found =
        position-push_here (λ (t : Table). bytes_eq t.key table.key) (own_ones done) own
        (ap (λ k. position (λ (t : Table). bytes_eq t.key k) (own_ones done)) alike.key
        ∙ absent_before rows.tables (own_ones done) own (own_ones more) own_parts
        (λ (t : Table). t.key) bytes_eq same_octets lawful.keys)
        ((bytes_decides own.key table.key).1 (sym alike.key))

    variant_free : (p : ℕ) (given : LimitRows)
        → row_fault
        (so_far_by rows.points rows.devices (own_ones done ++ own ∷ [])
        (further_ones done ++ before ∷ []) p given)
        (Variant table.key table.domain table.id) ≡ None
    variant_free p given =
        no_fault _ _ _ _ refl (ap is_none key_found) refl
        (ap (has_all_variants
        (rows_by rows.points rows.devices (own_ones done ++ own ∷ [])
        (further_ones done ++ before ∷ []))) key_found
        ∙ ap (λ (f : List Table). leb VARIANT_LIMIT (length f))
        (get_or_push (further_ones done) before [] (length (own_ones done)) variants_long)
        ∙ has_room further before table later parts VARIANT_LIMIT are_variants.limit)

    variant_begun : (p : ℕ) (given : LimitRows)
        → with_row
        (so_far_by rows.points rows.devices (own_ones done ++ own ∷ [])
        (further_ones done ++ before ∷ []) p given)
        (Variant table.key table.domain table.id)
        ≡ so_far_by rows.points rows.devices (own_ones done ++ own ∷ [])
        (further_ones done ++ (before ++ new_variant own table.domain table.id ∷ []) ∷ [])
        (length (own_ones done)) nothing_given
    variant_begun p given =
        let k = length (own_ones done) in
        let tables = own_ones done ++ own ∷ [] in
        let variants = further_ones done ++ before ∷ [] in
        let old = rows_by rows.points rows.devices tables variants in
        let new = λ (o : Table). new_variant o table.domain table.id in
        ap (λ o. varied old (unwrap_or o 0) table.domain table.id) key_found
        ∙ ap (λ o. so_far_by rows.points rows.devices tables
        (set variants k (get_or variants k [] ++ new o ∷ [])) k nothing_given)
        (get_or_push (own_ones done) own no_table k refl)
        ∙ ap (λ f. so_far_by rows.points rows.devices tables
        (set variants k (f ++ new own ∷ [])) k nothing_given)
        (get_or_push (further_ones done) before [] k variants_long)
        ∙ ap (λ vs. so_far_by rows.points rows.devices tables vs k nothing_given)
        (set_at (further_ones done) before [] (before ++ new own ∷ []) k variants_long)

    variant_is : with_sets (with_slots (new_variant own table.domain table.id) table.slots) table.sets
        ≡ bare table
    variant_is =
        ap (λ k. record (bare table) { key = k; title = own.title; pending = own.pending })
        (sym alike.key)
        ∙ ap (λ t. record (bare table) { title = t; pending = own.pending }) (sym alike.title)
        ∙ ap (λ octets. record (bare table) { pending = octets }) (sym alike.pending)

    variant_grows : (p : ℕ) (given : LimitRows)
        → Grows
        (so_far_by rows.points rows.devices (own_ones done ++ own ∷ [])
        (further_ones done ++ before ∷ []) p given)
        (variant_lines rows table)
        (so_far_by rows.points rows.devices (own_ones done ++ own ∷ [])
        (further_ones done ++ (before ++ table ∷ []) ∷ []) (length (own_ones done))
        (given_by true true false))
    variant_grows p given =
        let k = length (own_ones done) in
        let tables = own_ones done ++ own ∷ [] in
        let variants = λ (t : Table). further_ones done ++ (before ++ t ∷ []) ∷ [] in
        let new = new_variant own table.domain table.id in
        let end = so_far_by rows.points rows.devices tables (variants table) k
        (given_by true true false) in
        Grows-line
        (so_far_by rows.points rows.devices tables (further_ones done ++ before ∷ []) p given)
        (so_far_by rows.points rows.devices tables (variants new) k nothing_given) end
        (Variant table.key table.domain table.id)
        (Slots (Some table.slots) ∷ Sets (Some table.sets) ∷ row_lines rows table)
        (variant_free p given) (variant_begun p given)
        (numbers_grow rows lawful.names lawful.device_names (λ t. tables) variants k further_holds
        new table.slots table.sets (row_lines rows table) end
        (subst (λ t. Grows
        (so_far_by rows.points rows.devices tables (variants t) k (given_by true true false))
        (row_lines rows table) end) (sym variant_is)
        (rows_grow rows lawful.names lawful.device_names (λ t. tables) variants k further_holds
        table (given_by true true false)
        (as_all further before table later parts (IsTable (length rows.points))
        are_variants.tables)
        (as_all further before table later parts (IsControlling (length rows.devices))
        are_variants.controls))))

  -- the lines of further tables, behind those of the ones before them
  variants_grow : (before later : List Table) (p : ℕ) (given : LimitRows)
      → further ≡ before ++ later
      → (last : ℕ) × (last_given : LimitRows)
      × Grows
      (so_far_by rows.points rows.devices (own_ones done ++ own ∷ [])
      (further_ones done ++ before ∷ []) p given)
      (flat_map (variant_lines rows) later)
      (so_far_by rows.points rows.devices (own_ones done ++ own ∷ [])
      (further_ones done ++ (before ++ later) ∷ []) last last_given)
  variants_grow before [] p given parts = (
    p,
    given,
    ap (λ f. so_far_by rows.points rows.devices (own_ones done ++ own ∷ [])
        (further_ones done ++ f ∷ []) p given) (sym (append-nil before)),
  )
  variants_grow before (table ∷ later) p given parts =
      let k = length (own_ones done) in
      let tables = own_ones done ++ own ∷ [] in
      let variants = λ (f : List Table). further_ones done ++ f ∷ [] in
      let same = append_assoc before (table ∷ []) later in
      let rest = variants_grow (before ++ table ∷ []) later k (given_by true true false)
      (parts ∙ sym same) in (
        rest.0,
        rest.1,
        Grows-append
            (so_far_by rows.points rows.devices tables (variants before) p given)
            (so_far_by rows.points rows.devices tables (variants (before ++ table ∷ [])) k
            (given_by true true false))
            (so_far_by rows.points rows.devices tables (variants (before ++ table ∷ later)) rest.0
            rest.1)
            (variant_lines rows table) (flat_map (variant_lines rows) later)
            (variant_grows before table later parts p given)
            (subst
            (λ f. Grows
            (so_far_by rows.points rows.devices tables (variants (before ++ table ∷ [])) k
            (given_by true true false))
            (flat_map (variant_lines rows) later)
            (so_far_by rows.points rows.devices tables (variants f) rest.0 rest.1)) same rest.2),
      )

  -- the lines of all tables of the peer
  peer_grows : (p : ℕ) (given : LimitRows)
      → (last : ℕ) × (last_given : LimitRows)
      × Grows (so_far_by rows.points rows.devices (own_ones done) (further_ones done) p given)
      (peer_lines rows (own, further))
      (so_far_by rows.points rows.devices (own_ones done ++ own ∷ [])
      (further_ones done ++ further ∷ []) last last_given)
  peer_grows p given =
      let rest = variants_grow [] further (length (own_ones done)) (given_by true true true) refl in (
        rest.0,
        rest.1,
        Grows-append
            (so_far_by rows.points rows.devices (own_ones done) (further_ones done) p given)
            (so_far_by rows.points rows.devices (own_ones done ++ own ∷ [])
            (further_ones done ++ [] ∷ []) (length (own_ones done)) (given_by true true true))
            (so_far_by rows.points rows.devices (own_ones done ++ own ∷ [])
            (further_ones done ++ further ∷ []) rest.0 rest.1)
            (table_lines rows own) (flat_map (variant_lines rows) further) (own_grows p given)
            rest.2,
      )

-- the lines of peers, behind those of the peers before them
peers_grow : (rows : CentreRows) → IsCentre rows → (done more : List PeerTables) (p : ℕ)
    (given : LimitRows) → rows.tables ≡ own_ones done ++ own_ones more
    → rows.variants ≡ further_ones done ++ further_ones more
    → (last : ℕ) × (last_given : LimitRows)
    × Grows (so_far_by rows.points rows.devices (own_ones done) (further_ones done) p given)
    (flat_map (peer_lines rows) more)
    (so_far_by rows.points rows.devices (own_ones done ++ own_ones more)
    (further_ones done ++ further_ones more) last last_given)
peers_grow rows lawful done [] p given own_parts further_parts = (
  p,
  given,
  ap (λ ts. so_far_by rows.points rows.devices ts (further_ones done) p given)
      (sym (append-nil (own_ones done)))
      ∙ ap (λ vs. so_far_by rows.points rows.devices (own_ones done ++ []) vs p given)
      (sym (append-nil (further_ones done))),
)
peers_grow rows lawful done (peer ∷ more) p given own_parts further_parts =
    let own = peer.0 in
    let further = peer.1 in
    let longer = done ++ peer ∷ [] in
    let owns : own_ones longer ≡ own_ones done ++ own ∷ [] =
    map-append (λ (p : PeerTables). p.0) done (peer ∷ []) in
    let furthers : further_ones longer ≡ further_ones done ++ further ∷ [] =
    map-append (λ (p : PeerTables). p.1) done (peer ∷ []) in
    let own_same = ap (λ ts. ts ++ own_ones more) owns
    ∙ append_assoc (own_ones done) (own ∷ []) (own_ones more) in
    let further_same = ap (λ vs. vs ++ further_ones more) furthers
    ∙ append_assoc (further_ones done) (further ∷ []) (further_ones more) in
    let here = peer_grows rows lawful done own further more own_parts further_parts p given in
    let rest = peers_grow rows lawful longer more here.0 here.1 (own_parts ∙ sym own_same)
    (further_parts ∙ sym further_same) in (
      rest.0,
      rest.1,
      Grows-append (so_far_by rows.points rows.devices (own_ones done) (further_ones done) p given)
          (so_far_by rows.points rows.devices (own_ones done ++ own ∷ [])
          (further_ones done ++ further ∷ []) here.0 here.1)
          (so_far_by rows.points rows.devices (own_ones done ++ own ∷ own_ones more)
          (further_ones done ++ further ∷ further_ones more) rest.0 rest.1)
          (peer_lines rows peer) (flat_map (peer_lines rows) more) here.2
          (subst
          (λ start. Grows start (flat_map (peer_lines rows) more)
          (so_far_by rows.points rows.devices (own_ones done ++ own ∷ own_ones more)
          (further_ones done ++ further ∷ further_ones more) rest.0 rest.1))
          (ap (λ ts. so_far_by rows.points rows.devices ts (further_ones longer) here.0 here.1) owns
          ∙ ap (λ vs. so_far_by rows.points rows.devices (own_ones done ++ own ∷ []) vs here.0
          here.1) furthers)
          (subst
          (λ end. Grows
          (so_far_by rows.points rows.devices (own_ones longer) (further_ones longer) here.0 here.1)
          (flat_map (peer_lines rows) more) end)
          (ap (λ ts. so_far_by rows.points rows.devices ts
          (further_ones longer ++ further_ones more) rest.0 rest.1) own_same
          ∙ ap (λ vs. so_far_by rows.points rows.devices (own_ones done ++ own ∷ own_ones more) vs
          rest.0 rest.1) further_same) rest.2)),
    )

-- peers as pairs of their tables
zip_own : (tables : List Table) (variants : List (List Table))
    → length variants ≡ length tables → own_ones (zip tables variants) ≡ tables
zip_own [] variants same = refl
zip_own (t ∷ tables) [] same = absurd (omega (arith, same))
zip_own (t ∷ tables) (v ∷ variants) same =
    ap (λ ts. t ∷ ts) (zip_own tables variants (omega (arith, same)))

zip_further : (tables : List Table) (variants : List (List Table))
    → length variants ≡ length tables → further_ones (zip tables variants) ≡ variants
zip_further [] [] same = refl
zip_further [] (v ∷ variants) same = absurd (omega (arith, same))
zip_further (t ∷ tables) [] same = absurd (omega (arith, same))
zip_further (t ∷ tables) (v ∷ variants) same =
    ap (λ vs. v ∷ vs) (zip_further tables variants (omega (arith, same)))

-- the lines of a lawful centre stand, and they say its rows
pub centre_told : (rows : CentreRows) → IsCentre rows
    → AllStand [] (centre_lines rows) × ((told (centre_lines rows)).rows ≡ rows)
centre_told rows lawful =
    let peers = zip rows.tables rows.variants in
    let owns = zip_own rows.tables rows.variants lawful.variants in
    let furthers = zip_further rows.tables rows.variants lawful.variants in
    let tables = peers_grow rows lawful [] peers 0 nothing_given (sym owns) (sym furthers) in
    let end = so_far_by rows.points rows.devices (own_ones peers) (further_ones peers) tables.0
    tables.1 in
    let all = stand [] (centre_lines rows) end keyed-start
    (Grows-append at_start (so_far_by rows.points [] [] [] 0 nothing_given) end
    (map Point rows.points)
    (map Device rows.devices ++ flat_map (peer_lines rows) peers)
    (points_grow rows.points lawful.names lawful.point_limit)
    (Grows-append (so_far_by rows.points [] [] [] 0 nothing_given)
    (so_far_by rows.points rows.devices [] [] 0 nothing_given) end
    (map Device rows.devices) (flat_map (peer_lines rows) peers)
    (devices_grow rows.points rows.devices lawful.device_names lawful.devices lawful.apart
    lawful.device_limit) tables.2)) in (
      all.0,
      ap (λ (s : SoFar). s.rows) all.1
          ∙ ap (λ ts. rows_by rows.points rows.devices ts (further_ones peers)) owns
          ∙ ap (λ vs. rows_by rows.points rows.devices rows.tables vs) furthers,
    )
