-- The names that a table of a lawful centre offers differ in each scope, and aren't too many.
use Rattle.std.proofs.Common.{◌≡◌, ◌≢◌, ℕ, zero, suc, ◌+◌, ◌*◌, ◌≤◌, ◌==◌, Bool, true, false, not}
use Rattle.std.proofs.Common.{◌&&◌, List, [], ◌∷◌, ◌++◌, length, map, get_or, All, AllPairs, IsTrue}
use Rattle.std.proofs.Common.{refl, sym, ap, ◌∙◌, subst, arith, inl, inr}
use Rattle.std.specs.Prelude.{if◌then◌else◌, codes, filter, flat_map}
use Rattle.std.specs.List.{range_with_len}
use Rattle.std.proofs.lemmas.Bool.{cases_lt}
use Rattle.std.proofs.lemmas.List.{length-append, length-map, map-append, get_or_past}
use Rattle.std.proofs.lemmas.List.Elements.{filter-append}
use Rattle.mms_data.specs.declared.object_name.Scope.{Scope}
use Rattle.mms_data.specs.declared.object_name.Scope.TheVariants.{Vmd, Domain}
use Rattle.bilateral.specs.declared.rows.See.{See}
use Rattle.bilateral.specs.declared.rows.Control.{Control}
use Rattle.bilateral.specs.declared.rows.Table.{Table}
use Rattle.bilateral.specs.declared.rows.TheConstants.{SEE_LIMIT, SLOT_LIMIT, DEVICE_LIMIT}
use Rattle.bilateral.specs.Words.Words.{is_name}
use Rattle.bilateral.specs.Rows.{CentreRows, IsCentre, IsTable, IsControlling, no_table}
use Rattle.bilateral.specs.Rows.{further_of, variant_of}
use Rattle.bilateral.specs.RowNames.{see_name, control_name, row_names, vmd_row_names}
use Rattle.bilateral.specs.RowNames.{domain_row_names}
use Rattle.tase_views.specs.OwnTables.{OwnDevice, OwnTable, own_point, own_device, own_table}
use Rattle.tase_views.specs.OwnTables.{is_scope_of}
use Rattle.tase_views.specs.Objects.{NamedObject, named_by, next_transfer_set, control_point}
use Rattle.tase_views.specs.Objects.{selection, device_tag, timeout, objects, special_objects}
use Rattle.tase_views.specs.Objects.{next_objects, objects_of_device, objects_of_slot}
use Rattle.tase_views.specs.Objects.{point_object}
use Rattle.tase_views.specs.NameLists.{variables_in, in_order, with_name, is_below}
use Rattle.tase_discover.specs.declared.end.TheConstants.{MOST_NAMES}
use Rattle.tase_discover.specs.Listings.{listed_names, items_in, named_in}
use Rattle.tase_discover.specs.SelfListings.{Differ, NamesDiffer}
use Rattle.tase_discover.proofs.Rising.{if_elim}
use Rattle.tase_discover.proofs.Typed.{Every, every-append, same_octets}
use Rattle.tase_discover.proofs.Apart.{Differ-all, every-all, every-parts}
use Rattle.tase_discover.proofs.OfferedNames.{device_items, items_with, slot_items, own_items}
use Rattle.tase_discover.proofs.OfferedNames.{whole_items, names_of, AreNamed, domain_differs}
use Rattle.tase_discover.proofs.OfferedNames.{whole_differs}

-- ---- the items of the objects that are found in a scope

-- those that pass by where they are found
abbrev picked : (Bool → Bool) → List NamedObject → List (List ℕ)
picked pick xs = map (λ o. o.item) (filter (λ o. pick o.vmd) xs)

picked-append : (pick : Bool → Bool) (xs ys : List NamedObject)
    → picked pick (xs ++ ys) ≡ picked pick xs ++ picked pick ys
picked-append pick xs ys =
    ap (map (λ (o : NamedObject). o.item)) (filter-append (λ (o : NamedObject). pick o.vmd) xs ys)
    ∙ map-append (λ (o : NamedObject). o.item) (filter (λ o. pick o.vmd) xs)
    (filter (λ o. pick o.vmd) ys)

picked-all : (pick : Bool → Bool) (xs : List NamedObject) → Every (λ o. pick o.vmd ≡ true) xs
    → picked pick xs ≡ map (λ o. o.item) xs
picked-all pick [] e = refl
picked-all pick (x ∷ xs) e =
    ap (λ (b : Bool). map (λ (o : NamedObject). o.item)
    (if b then x ∷ filter (λ o. pick o.vmd) xs else filter (λ o. pick o.vmd) xs)) e.0
    ∙ ap (λ (names : List (List ℕ)). x.item ∷ names) (picked-all pick xs e.1)

picked-none : (pick : Bool → Bool) (xs : List NamedObject) → Every (λ o. pick o.vmd ≡ false) xs
    → picked pick xs ≡ []
picked-none pick [] e = refl
picked-none pick (x ∷ xs) e =
    ap (λ (b : Bool). map (λ (o : NamedObject). o.item)
    (if b then x ∷ filter (λ o. pick o.vmd) xs else filter (λ o. pick o.vmd) xs)) e.0
    ∙ picked-none pick xs e.1

-- tests that agree pick alike
picked_alike : (test : NamedObject → Bool) (pick : Bool → Bool)
    → ((o : NamedObject) → test o ≡ pick o.vmd) → (xs : List NamedObject)
    → map (λ o. o.item) (filter test xs) ≡ picked pick xs
picked_alike test pick agree [] = refl
picked_alike test pick agree (x ∷ xs) =
    ap (λ (b : Bool). map (λ (o : NamedObject). o.item)
    (if b then x ∷ filter test xs else filter test xs)) (agree x)
    ∙ by (pick x.vmd) (picked_alike test pick agree xs)
  where
    by : (b : Bool) → map (λ o. o.item) (filter test xs) ≡ picked pick xs
        → map (λ (o : NamedObject). o.item) (if b then x ∷ filter test xs else filter test xs)
        ≡ map (λ (o : NamedObject). o.item)
        (if b then x ∷ filter (λ o. pick o.vmd) xs else filter (λ o. pick o.vmd) xs)
    by true more = ap (λ (names : List (List ℕ)). x.item ∷ names) more
    by false more = more

and_true : (b : Bool) → (b && true) ≡ b
and_true true = refl
and_true false = refl

-- ---- part by part

module _ (P : Bool → Type 0) (own : P false) where
  next_found : (none : Bool)
      → Every (λ (o : NamedObject). P o.vmd)
      (if none then [] else named_by false (codes "Next_DSTransfer_Set") next_transfer_set ∷ [])
  next_found true = tt
  next_found false = (own, tt)

  device_found : (d : OwnDevice) → Every (λ (o : NamedObject). P o.vmd) (objects_of_device d)
  device_found d = (own, (own, by d.row.direct))
    where
      by : (direct : Bool)
          → Every (λ (o : NamedObject). P o.vmd)
          (if direct then []
          else named_by false (d.row.name ++ codes "_SBO") (selection d)
          ∷ named_by false (d.row.name ++ codes "_TIMEOUT") (timeout d) ∷ [])
      by true = tt
      by false = (own, (own, tt))

  devices_found : (ds : List OwnDevice)
      → Every (λ (o : NamedObject). P o.vmd) (flat_map objects_of_device ds)
  devices_found [] = tt
  devices_found (d ∷ ds) =
      every-append (λ (o : NamedObject). P o.vmd) (objects_of_device d)
      (flat_map objects_of_device ds) (device_found d) (devices_found ds)

  slots_found : (slots : List ℕ)
      → Every (λ (o : NamedObject). P o.vmd) (flat_map objects_of_slot slots)
  slots_found [] = tt
  slots_found (s ∷ slots) = (own, (own, slots_found slots))

device_is : (d : OwnDevice)
    → map (λ (o : NamedObject). o.item) (objects_of_device d) ≡ items_with d.row.name d.row.direct
device_is d = by d.row.direct
  where
    by : (direct : Bool)
        → map (λ (o : NamedObject). o.item)
        (named_by false d.row.name (control_point d)
        ∷ named_by false (d.row.name ++ codes "_TAG") (device_tag d)
        ∷ (if direct then []
        else named_by false (d.row.name ++ codes "_SBO") (selection d)
        ∷ named_by false (d.row.name ++ codes "_TIMEOUT") (timeout d) ∷ []))
        ≡ items_with d.row.name direct
    by true = refl
    by false = refl

devices_are : (ds : List OwnDevice)
    → map (λ (o : NamedObject). o.item) (flat_map objects_of_device ds) ≡ device_items ds
devices_are [] = refl
devices_are (d ∷ ds) =
    map-append (λ (o : NamedObject). o.item) (objects_of_device d) (flat_map objects_of_device ds)
    ∙ ap (λ (names : List (List ℕ)). map (λ (o : NamedObject). o.item) (objects_of_device d)
    ++ names) (devices_are ds)
    ∙ ap (λ (names : List (List ℕ)). names ++ device_items ds) (device_is d)

slots_are : (s n : ℕ)
    → map (λ (o : NamedObject). o.item) (flat_map objects_of_slot (range_with_len s n))
    ≡ slot_items s n
slots_are s zero = refl
slots_are s (suc n) =
    ap (λ (names : List (List ℕ)). map (λ (o : NamedObject). o.item) (objects_of_slot s) ++ names)
    (slots_are (s + 1) n)

points_are : (pick : Bool → Bool) (rows : CentreRows) (sees : List See)
    → picked pick (map point_object (map (own_point rows) sees))
    ≡ map (see_name rows) (filter (λ see. pick see.vmd) sees)
points_are pick rows [] = refl
points_are pick rows (see ∷ sees) = by (pick see.vmd) (points_are pick rows sees)
  where
    by : (b : Bool)
        → picked pick (map point_object (map (own_point rows) sees))
        ≡ map (see_name rows) (filter (λ see. pick see.vmd) sees)
        → map (λ (o : NamedObject). o.item)
        (if b then point_object (own_point rows see)
        ∷ filter (λ o. pick o.vmd) (map point_object (map (own_point rows) sees))
        else filter (λ o. pick o.vmd) (map point_object (map (own_point rows) sees)))
        ≡ map (see_name rows)
        (if b then see ∷ filter (λ see. pick see.vmd) sees else filter (λ see. pick see.vmd) sees)
    by true more = ap (λ (names : List (List ℕ)). see_name rows see ∷ names) more
    by false more = more

-- ---- all of a table

module _ (rows : CentreRows) (t : Table) where
  abbrev own : OwnTable
  own = own_table rows t

  abbrev parts_of : (Bool → Bool) → List (List ℕ)
  parts_of pick =
      picked pick (special_objects own) ++ picked pick (next_objects t.slots)
      ++ picked pick (flat_map objects_of_device own.devices)
      ++ picked pick (flat_map objects_of_slot (range_with_len 0 t.slots))
      ++ map (see_name rows) (filter (λ see. pick see.vmd) t.sees)

  picked_parts : (pick : Bool → Bool) → picked pick (objects own) ≡ parts_of pick
  picked_parts pick =
      let special = special_objects own in
      let next = next_objects t.slots in
      let devices = flat_map objects_of_device own.devices in
      let slots = flat_map objects_of_slot (range_with_len 0 t.slots) in
      let points = map point_object own.points in
      picked-append pick (special ++ next ++ devices ++ slots) points
      ∙ ap (λ (names : List (List ℕ)). names ++ picked pick points)
      (picked-append pick (special ++ next ++ devices) slots
      ∙ ap (λ (names : List (List ℕ)). names ++ picked pick slots)
      (picked-append pick (special ++ next) devices
      ∙ ap (λ (names : List (List ℕ)). names ++ picked pick devices)
      (picked-append pick special next)))
      ∙ ap (λ (names : List (List ℕ)). picked pick special ++ picked pick next
      ++ picked pick devices ++ picked pick slots ++ names) (points_are pick rows t.sees)

  -- in the whole device
  whole_is : variables_in own (objects own) Vmd ≡ whole_items ++ vmd_row_names rows t
  whole_is =
      let pick : Bool → Bool = λ b. b in
      let points = vmd_row_names rows t in
      picked_parts pick
      ∙ ap (λ (names : List (List ℕ)). whole_items ++ names
      ++ picked pick (flat_map objects_of_device own.devices)
      ++ picked pick (flat_map objects_of_slot (range_with_len 0 t.slots)) ++ points)
      (picked-none pick (next_objects t.slots)
      (next_found (λ b. b ≡ false) refl (t.slots == 0)))
      ∙ ap (λ (names : List (List ℕ)). whole_items ++ names
      ++ picked pick (flat_map objects_of_slot (range_with_len 0 t.slots)) ++ points)
      (picked-none pick (flat_map objects_of_device own.devices)
      (devices_found (λ b. b ≡ false) refl own.devices))
      ∙ ap (λ (names : List (List ℕ)). whole_items ++ names ++ points)
      (picked-none pick (flat_map objects_of_slot (range_with_len 0 t.slots))
      (slots_found (λ b. b ≡ false) refl (range_with_len 0 t.slots)))

  abbrev domain_points : List (List ℕ)
  domain_points = map (see_name rows) (filter (λ see. not see.vmd) t.sees)

  next_is : (none : Bool)
      → picked not (special_objects own)
      ++ map (λ (o : NamedObject). o.item)
      (if none then [] else named_by false (codes "Next_DSTransfer_Set") next_transfer_set ∷ [])
      ≡ own_items none
  next_is true = refl
  next_is false = refl

  -- in its domain
  domain_is : variables_in own (objects own) (Domain t.domain)
      ≡ own_items (t.slots == 0) ++ device_items own.devices ++ slot_items 0 t.slots
      ++ domain_points
  domain_is =
      let special = picked not (special_objects own) in
      let next = next_objects t.slots in
      let devices = flat_map objects_of_device own.devices in
      let slots = flat_map objects_of_slot (range_with_len 0 t.slots) in
      picked_alike (λ o. is_scope_of own (Domain t.domain) o.vmd) not
      (λ o. ap (λ (b : Bool). not o.vmd && b) (same_octets t.domain) ∙ and_true (not o.vmd))
      (objects own)
      ∙ picked_parts not
      ∙ ap (λ (names : List (List ℕ)). special ++ names ++ picked not devices ++ picked not slots
      ++ domain_points)
      (picked-all not next (next_found (λ b. not b ≡ true) refl (t.slots == 0)))
      ∙ ap (λ (names : List (List ℕ)). names ++ picked not devices ++ picked not slots
      ++ domain_points) (next_is (t.slots == 0))
      ∙ ap (λ (names : List (List ℕ)). own_items (t.slots == 0) ++ names ++ picked not slots
      ++ domain_points)
      (picked-all not devices (devices_found (λ b. not b ≡ true) refl own.devices)
      ∙ devices_are own.devices)
      ∙ ap (λ (names : List (List ℕ)). own_items (t.slots == 0) ++ device_items own.devices ++ names
      ++ domain_points)
      (picked-all not slots (slots_found (λ b. not b ≡ true) refl (range_with_len 0 t.slots))
      ∙ slots_are 0 t.slots)

-- ---- how many there are

length-with_name : (name : List ℕ) (names : List (List ℕ))
    → length (with_name name names) ≡ length names + 1
length-with_name name [] = refl
length-with_name name (first ∷ names) =
    if_elim (λ (ns : List (List ℕ)). length ns ≡ length (first ∷ names) + 1) (is_below first name)
    (first ∷ with_name name names) (name ∷ first ∷ names)
    (λ _. omega (arith, length-with_name name names)) (λ _. omega arith)

length-in_order : (names : List (List ℕ)) → length (in_order names) ≡ length names
length-in_order [] = refl
length-in_order (name ∷ names) =
    omega (arith, length-with_name name (in_order names), length-in_order names)

fewer_pass : (test : NamedObject → Bool) (xs : List NamedObject)
    → length (filter test xs) ≤ length xs
fewer_pass test [] = omega arith
fewer_pass test (x ∷ xs) =
    if_elim (λ (ys : List NamedObject). length ys ≤ length (x ∷ xs)) (test x) (x ∷ filter test xs)
    (filter test xs) (λ _. omega (arith, fewer_pass test xs))
    (λ _. omega (arith, fewer_pass test xs))

few_next : (none : Bool) → length (if none then []
    else named_by false (codes "Next_DSTransfer_Set") next_transfer_set ∷ []) ≤ 1
few_next true = omega arith
few_next false = omega arith

few_of_device : (d : OwnDevice) → length (objects_of_device d) ≤ 4
few_of_device d = by d.row.direct
  where
    by : (direct : Bool)
        → length (named_by false d.row.name (control_point d)
        ∷ named_by false (d.row.name ++ codes "_TAG") (device_tag d)
        ∷ (if direct then []
        else named_by false (d.row.name ++ codes "_SBO") (selection d)
        ∷ named_by false (d.row.name ++ codes "_TIMEOUT") (timeout d) ∷ [])) ≤ 4
    by true = omega arith
    by false = omega arith

few_of_devices : (ds : List OwnDevice) → length (flat_map objects_of_device ds) ≤ 4 * length ds
few_of_devices [] = omega arith
few_of_devices (d ∷ ds) =
    omega (
      arith,
      length-append (objects_of_device d) (flat_map objects_of_device ds),
      few_of_device d,
      few_of_devices ds,
    )

few_of_slots : (s n : ℕ) → length (flat_map objects_of_slot (range_with_len s n)) ≤ 2 * n
few_of_slots s zero = omega arith
few_of_slots s (suc n) = omega (arith, few_of_slots (s + 1) n)

-- a table's limits
record IsBounded (t : Table) : Type 0 where
  sees : length t.sees ≤ SEE_LIMIT
  controls : length t.controls ≤ DEVICE_LIMIT
  slots : t.slots ≤ SLOT_LIMIT

few_objects : (rows : CentreRows) (t : Table) → IsBounded t
    → length (objects (own_table rows t)) ≤ 20000
few_objects rows t bounded =
    let special = special_objects (own_table rows t) in
    let next = next_objects t.slots in
    let devices = flat_map objects_of_device (map (own_device rows) t.controls) in
    let slots = flat_map objects_of_slot (range_with_len 0 t.slots) in
    let points = map point_object (map (own_point rows) t.sees) in
    let eleven : length special ≡ 11 = refl in
    omega (
      arith,
      eleven,
      length-append (special ++ next ++ devices ++ slots) points,
      length-append (special ++ next ++ devices) slots,
      length-append (special ++ next) devices,
      length-append special next,
      few_next (t.slots == 0),
      few_of_devices (map (own_device rows) t.controls),
      length-map t.controls (own_device rows),
      few_of_slots 0 t.slots,
      length-map (map (own_point rows) t.sees) point_object,
      length-map t.sees (own_point rows),
      bounded.sees,
      bounded.controls,
      bounded.slots,
    )

few_in : (rows : CentreRows) (t : Table) (scope : Scope) → IsBounded t
    → length (items_in (own_table rows t) scope) ≤ 20000
few_in rows t scope bounded =
    let own = own_table rows t in
    let test : NamedObject → Bool = λ o. is_scope_of own scope o.vmd in
    omega (
      arith,
      length-in_order (variables_in own (objects own) scope),
      length-map (filter test (objects own)) (λ (o : NamedObject). o.item),
      fewer_pass test (objects own),
      few_objects rows t bounded,
    )

few_listed : (rows : CentreRows) (t : Table) → IsBounded t
    → length (listed_names (own_table rows t)) ≤ MOST_NAMES
few_listed rows t bounded =
    let own = own_table rows t in
    let vmd = items_in own Vmd in
    let domain = items_in own (Domain t.domain) in
    omega (
      arith,
      length-append (map (named_in Vmd) vmd) (map (named_in (Domain t.domain)) domain),
      length-map vmd (named_in Vmd),
      length-map domain (named_in (Domain t.domain)),
      few_in rows t Vmd bounded,
      few_in rows t (Domain t.domain) bounded,
    )

-- ---- each table of a centre

none_bounded : IsBounded no_table
none_bounded = record { sees = omega arith; controls = omega arith; slots = omega arith }

bounded_at : (tables : List Table) → All IsBounded tables → (n : ℕ)
    → IsBounded (get_or tables n no_table)
bounded_at tables all n =
    elim (cases_lt n (length tables)) [
      | inl here ↦ all n no_table here
      | inr behind ↦ subst IsBounded (sym (get_or_past tables n no_table behind)) none_bounded
    ]

both_bounded : (points devices : ℕ) (t : Table) → IsTable points t → IsControlling devices t
    → IsBounded t
both_bounded points devices t is controlling =
    record { sees = is.limit; controls = controlling.limit; slots = is.slots }

table_bounded : (rows : CentreRows) (peer variant : ℕ) → IsCentre rows
    → IsBounded (variant_of rows peer variant)
table_bounded rows peer zero lawful =
    bounded_at rows.tables (λ k d below. both_bounded (length rows.points) (length rows.devices) _
    (lawful.tables k d below) (lawful.controls k d below)) peer
table_bounded rows peer (suc variant) lawful =
    bounded_at (further_of rows peer)
    (λ k d below. both_bounded (length rows.points) (length rows.devices) _
    ((lawful.further peer).tables k d below) ((lawful.further peer).controls k d below)) variant

controls_named : (rows : CentreRows) (controls : List Control)
    → Every (λ x. is_name x ≡ true) (map (control_name rows) controls)
    → AreNamed (map (own_device rows) controls)
controls_named rows [] e = tt
controls_named rows (control ∷ controls) e = (e.0, controls_named rows controls e.1)

some_named : (rows : CentreRows) (pick : Bool → Bool) (sees : List See)
    → Every (λ x. is_name x ≡ true) (map (see_name rows) sees)
    → Every (λ x. is_name x ≡ true) (map (see_name rows) (filter (λ see. pick see.vmd) sees))
some_named rows pick [] e = tt
some_named rows pick (see ∷ sees) e =
    if_elim (λ (ss : List See). Every (λ x. is_name x ≡ true) (map (see_name rows) ss))
    (pick see.vmd) (see ∷ filter (λ see. pick see.vmd) sees) (filter (λ see. pick see.vmd) sees)
    (λ _. (e.0, some_named rows pick sees e.1)) (λ _. some_named rows pick sees e.1)

names_of_controls : (rows : CentreRows) (controls : List Control)
    → names_of (map (own_device rows) controls) ≡ map (control_name rows) controls
names_of_controls rows [] = refl
names_of_controls rows (control ∷ controls) =
    ap (λ (names : List (List ℕ)). control_name rows control ∷ names)
    (names_of_controls rows controls)

-- from what a centre's rows keep
pub names_differ : (rows : CentreRows) (peer variant : ℕ) → IsCentre rows
    → AllPairs (λ a b. a ≢ b) (vmd_row_names rows (variant_of rows peer variant))
    → AllPairs (λ a b. a ≢ b) (domain_row_names rows (variant_of rows peer variant))
    → All (λ name. IsTrue (is_name name)) (row_names rows (variant_of rows peer variant))
    → NamesDiffer (own_table rows (variant_of rows peer variant))
names_differ rows peer variant lawful whole_once domain_once well =
    let t = variant_of rows peer variant in
    let bounded = table_bounded rows peer variant lawful in
    let sees = map (see_name rows) t.sees in
    let controls = map (control_name rows) t.controls in
    let named = every-parts (λ x. is_name x ≡ true) sees controls
    (every-all (λ x. is_name x ≡ true) (sees ++ controls) well) in
    let points = map (see_name rows) (filter (λ see. not see.vmd) t.sees) in
    record {
      device =
          subst Differ (sym (whole_is rows t))
          (whole_differs (vmd_row_names rows t) (some_named rows (λ b. b) t.sees named.first)
          (Differ-all (vmd_row_names rows t) whole_once));
      domain =
          subst Differ (sym (domain_is rows t))
          (domain_differs (t.slots == 0) (map (own_device rows) t.controls) t.slots points
          bounded.slots (controls_named rows t.controls named.second)
          (some_named rows not t.sees named.first)
          (subst (λ (names : List (List ℕ)). Differ (points ++ names))
          (sym (names_of_controls rows t.controls))
          (Differ-all (domain_row_names rows t) domain_once)));
      few = few_listed rows t bounded;
    }
