-- The names in a table's domain: the texts of those of transfer sets, what an item stands for, and
-- in which scope.
use Rattle.std.proofs.Common.{◌≡◌, ◌==◌, ℕ, suc, ◌+◌, ◌-◌, ◌<◌, ◌≤◌, Bool, true, false, ◌&&◌}
use Rattle.std.proofs.Common.{cond, List, [], ◌∷◌, ◌++◌, map, length, get_or, Bor, Option, Some}
use Rattle.std.proofs.Common.{None}
use Rattle.std.proofs.Common.{bytes_eq, refl, sym, ap, ◌∙◌, arith, append_assoc}
use Rattle.std.specs.Prelude.{codes, if◌then◌else◌}
use Rattle.std.specs.List.{All, find, filter, flat_map, range_with_len}
use Rattle.std.specs.Option.{option_or}
use Rattle.std.proofs.lemmas.Bool.{ne_eqb}
use Rattle.std.proofs.lemmas.List.{get_or-map, length-map, map-append}
use Rattle.std.proofs.lemmas.List.Elements.{All-append, All-cons, All-nil, All-head, All-tail}
use Rattle.std.proofs.lemmas.List.Elements.{filter-append}
use Rattle.std.proofs.lemmas.List.Folds.{find-append}
use Rattle.std.proofs.lemmas.List.FromFn.{get_or-map-range_with_len, length-map-range_with_len}
use Rattle.mms_data.specs.declared.object_name.Scope.{Scope}
use Rattle.tase_views.specs.OwnTables.{OwnDevice, OwnTable, is_scope_of}
use Rattle.tase_views.specs.NameLists.{variables_in}
use Rattle.tase_views.specs.Objects.{NamedObject, named_by, transfer_set, transfer_set_status}
use Rattle.tase_views.specs.Objects.{next_objects, next_transfer_set, objects_of_slot, slot_item}
use Rattle.tase_views.specs.Objects.{control_point, selection, objects_of_device}
use Rattle.node_core.specs.Objects.Found.{device_objects, slot_objects, domain_objects}
use Rattle.node_core.proofs.OfObjects.Names.{find_alike, find-none}
use Rattle.node_core.proofs.OfObjects.DeviceNames.{tag_object, timeout_object, with_selection}

-- what stands at a place of a table of texts that are a function's values
pub text_at : (f : ℕ → List ℕ) (n : ℕ) (texts : List (Bor (List ℕ))) (place : ℕ)
    (d : Bor (List ℕ)) → place < n → map (λ text. text.now) texts ≡ map f (range_with_len 0 n)
    → (get_or texts place d).now ≡ f place
text_at f n texts place d within are =
    let long : length texts ≡ n =
    sym (length-map texts (λ text. text.now)) ∙ ap length are ∙ length-map-range_with_len f 0 n in
    sym (get_or-map (λ (text : Bor (List ℕ)). text.now) texts place d d.now
    (omega (arith, long, within)))
    ∙ ap (λ (all : List (List ℕ)). get_or all place d.now) are
    ∙ get_or-map-range_with_len f 0 n place place d.now within (omega arith)

abbrev pub status_item : ℕ → List ℕ
status_item slot = slot_item slot ++ codes "$Status"

-- ---- transfer set by transfer set

abbrev pub next_object : NamedObject
next_object = named_by false (codes "Next_DSTransfer_Set") next_transfer_set

abbrev pub slot_object : ℕ → NamedObject
slot_object slot = named_by false (slot_item slot) (transfer_set slot)

abbrev pub status_object : ℕ → NamedObject
status_object slot = named_by false (status_item slot) (transfer_set_status slot)

-- the objects of the transfer sets from one on
abbrev pub slots_from : ℕ → ℕ → List NamedObject
slots_from slot slots = flat_map objects_of_slot (range_with_len slot (slots - slot))

pub slots_on : (slot slots : ℕ) → slot < slots
    → slots_from slot slots ≡ objects_of_slot slot ++ slots_from (slot + 1) slots
slots_on slot slots within =
    let more : slots - slot ≡ suc (slots - (slot + 1)) = omega (arith, within) in
    ap (λ (n : ℕ). flat_map objects_of_slot (range_with_len slot n)) more

-- what was found among all is what is found from here on
module _ (item : List ℕ) (found : Option NamedObject) (slot slots : ℕ) (within : slot < slots)
    (before : found ≡ find (λ o. bytes_eq o.item item) (slots_from slot slots)) where
  by_parts : found ≡ find (λ o. bytes_eq o.item item)
      (objects_of_slot slot ++ slots_from (slot + 1) slots)
  by_parts = before ∙ ap (find (λ o. bytes_eq o.item item)) (slots_on slot slots within)

  pub slot_found : bytes_eq (slot_item slot) item ≡ true
      → found ≡ Some (slot_object slot)
  slot_found here = by_parts ∙ rw here refl

  pub status_found : bytes_eq (slot_item slot) item ≡ false
      → bytes_eq (status_item slot) item ≡ true → found ≡ Some (status_object slot)
  status_found other here = by_parts ∙ rw (other, here) refl

  pub slot_passed : bytes_eq (slot_item slot) item ≡ false
      → bytes_eq (status_item slot) item ≡ false
      → found ≡ find (λ o. bytes_eq o.item item) (slots_from (slot + 1) slots)
  slot_passed other apart = by_parts ∙ rw (other, apart) refl

-- a name that is appended, if it passes, in front of those yet to come
pub pushed_ahead : (test : List ℕ → Bool) (names more : List (List ℕ)) (name : List ℕ)
    (rest : List (List ℕ)) → more ≡ names ++ filter test (name ∷ [])
    → more ++ filter test rest ≡ names ++ filter test (name ∷ rest)
pushed_ahead test names more name rest pushed =
    ap (λ (ns : List (List ℕ)). ns ++ filter test rest) pushed
    ∙ append_assoc names (filter test (name ∷ [])) (filter test rest)
    ∙ ap (λ (ns : List (List ℕ)). names ++ ns) (sym (filter-append test (name ∷ []) rest))

-- ---- all of them are found in the table's domain

abbrev InDomain : NamedObject → Type 0
InDomain o = o.vmd ≡ false

slots-in_domain : (slots : List ℕ) → All InDomain (flat_map objects_of_slot slots)
slots-in_domain [] = All-nil InDomain
slots-in_domain (slot ∷ slots) =
    let more = flat_map objects_of_slot slots in
    All-cons InDomain (slot_object slot) (status_object slot ∷ more) refl
    (All-cons InDomain (status_object slot) more refl (slots-in_domain slots))

next-in_domain : (slots : ℕ) → All InDomain (next_objects slots)
next-in_domain slots = by (slots == 0)
  where
    by : (none : Bool) → All InDomain (if none then [] else next_object ∷ [])
    by true = All-nil InDomain
    by false = All-cons InDomain next_object [] refl (All-nil InDomain)

device-in_domain : (d : OwnDevice) → All InDomain (objects_of_device d)
device-in_domain d =
    let more = with_selection d d.row.direct in
    All-cons InDomain (named_by false d.row.name (control_point d)) (tag_object d ∷ more) refl
    (All-cons InDomain (tag_object d) more refl (by d.row.direct))
  where
    by : (direct : Bool) → All InDomain (with_selection d direct)
    by true = All-nil InDomain
    by false =
        All-cons InDomain (named_by false (d.row.name ++ codes "_SBO") (selection d))
        (timeout_object d ∷ []) refl
        (All-cons InDomain (timeout_object d) [] refl (All-nil InDomain))

devices-in_domain : (devices : List OwnDevice) → All InDomain (device_objects devices)
devices-in_domain [] = All-nil InDomain
devices-in_domain (d ∷ devices) =
    All-append InDomain (objects_of_device d) (device_objects devices) (device-in_domain d)
    (devices-in_domain devices)

domain-in_domain : (table : OwnTable) → All InDomain (domain_objects table)
domain-in_domain table =
    let next = next_objects table.slots in
    let devices = device_objects table.devices in
    All-append InDomain (next ++ devices) (slot_objects table.slots)
    (All-append InDomain next devices (next-in_domain table.slots)
    (devices-in_domain table.devices))
    (slots-in_domain (range_with_len 0 table.slots))

filter-all : {X : Type 0} (test : X → Bool) (xs : List X) → All (λ x. test x ≡ true) xs
    → filter test xs ≡ xs
filter-all test [] passes = refl
filter-all {X = X} test (x ∷ xs) passes =
    rw (All-head (λ x. test x ≡ true) x xs passes) (ap (λ (all : List X). x ∷ all)
    (filter-all test xs (All-tail (λ x. test x ≡ true) x xs passes)))

filter-none : {X : Type 0} (test : X → Bool) (xs : List X) → All (λ x. test x ≡ false) xs
    → filter test xs ≡ []
filter-none test [] fails = refl
filter-none test (x ∷ xs) fails =
    rw (All-head (λ x. test x ≡ false) x xs fails)
    (filter-none test xs (All-tail (λ x. test x ≡ false) x xs fails))

-- those of a table that has transfer sets
pub some_slots : (table : OwnTable) → 1 ≤ table.slots
    → domain_objects table
    ≡ next_object ∷ device_objects table.devices ++ slot_objects table.slots
some_slots table least = rw (ne_eqb table.slots 0 (omega (arith, least))) refl

module _ (table : OwnTable) (scope : Scope) where
  -- by name, in another scope none
  pub domain_found-away : (item : List ℕ) → is_scope_of table scope false ≡ false
      → find (λ o. is_scope_of table scope o.vmd && bytes_eq o.item item) (domain_objects table)
      ≡ None
  domain_found-away item away =
      find-none (λ (o : NamedObject). is_scope_of table scope o.vmd && bytes_eq o.item item)
      (domain_objects table) (λ k d within. rw (domain-in_domain table k d within, away) refl)

  -- in the domain the next transfer set, or else a device's object, or else a transfer set's
  domain_found-here : (item : List ℕ) → 1 ≤ table.slots → is_scope_of table scope false ≡ true
      → find (λ o. is_scope_of table scope o.vmd && bytes_eq o.item item) (domain_objects table)
      ≡ cond (bytes_eq (codes "Next_DSTransfer_Set") item) (Some next_object)
      (option_or (find (λ o. bytes_eq o.item item) (device_objects table.devices))
      (find (λ o. bytes_eq o.item item) (slot_objects table.slots)))
  domain_found-here item least here =
      find_alike (λ (o : NamedObject). is_scope_of table scope o.vmd && bytes_eq o.item item)
      (λ o. bytes_eq o.item item) (domain_objects table)
      (λ k d within. rw (domain-in_domain table k d within, here) refl)
      ∙ ap (find (λ o. bytes_eq o.item item)) (some_slots table least)
      ∙ ap (cond (bytes_eq (codes "Next_DSTransfer_Set") item) (Some next_object))
      (find-append (λ (o : NamedObject). bytes_eq o.item item) (device_objects table.devices)
      (slot_objects table.slots))

  pub domain_found-next : (item : List ℕ) → 1 ≤ table.slots → is_scope_of table scope false ≡ true
      → bytes_eq (codes "Next_DSTransfer_Set") item ≡ true
      → find (λ o. is_scope_of table scope o.vmd && bytes_eq o.item item) (domain_objects table)
      ≡ Some next_object
  domain_found-next item least here next = domain_found-here item least here ∙ rw next refl

  pub domain_found-other : (item : List ℕ) → 1 ≤ table.slots → is_scope_of table scope false ≡ true
      → bytes_eq (codes "Next_DSTransfer_Set") item ≡ false
      → find (λ o. is_scope_of table scope o.vmd && bytes_eq o.item item) (domain_objects table)
      ≡ option_or (find (λ o. bytes_eq o.item item) (device_objects table.devices))
      (find (λ o. bytes_eq o.item item) (slot_objects table.slots))
  domain_found-other item least here other = domain_found-here item least here ∙ rw other refl

  -- the names in a scope
  pub names_in_domain-away : is_scope_of table scope false ≡ false
      → variables_in table (domain_objects table) scope ≡ []
  names_in_domain-away away =
      ap (map (λ (o : NamedObject). o.item))
      (filter-none (λ (o : NamedObject). is_scope_of table scope o.vmd) (domain_objects table)
      (λ k d within. rw (domain-in_domain table k d within, away) refl))

  pub names_in_domain : 1 ≤ table.slots → is_scope_of table scope false ≡ true
      → variables_in table (domain_objects table) scope
      ≡ codes "Next_DSTransfer_Set" ∷ map (λ o. o.item) (device_objects table.devices)
      ++ map (λ o. o.item) (slot_objects table.slots)
  names_in_domain least here =
      ap (map (λ (o : NamedObject). o.item))
      (filter-all (λ (o : NamedObject). is_scope_of table scope o.vmd) (domain_objects table)
      (λ k d within. rw (domain-in_domain table k d within, here) refl)
      ∙ some_slots table least)
      ∙ ap (λ (names : List (List ℕ)). codes "Next_DSTransfer_Set" ∷ names)
      (map-append (λ (o : NamedObject). o.item) (device_objects table.devices)
      (slot_objects table.slots))
