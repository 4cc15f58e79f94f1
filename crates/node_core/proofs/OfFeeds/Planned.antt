-- Changes of points as they are planned and noted.
use Rattle.std.proofs.Common.{◌≡◌, ◌==◌, ℕ, zero, suc, ◌+◌, ◌<◌, ◌≤◌, Bool, true, false, not}
use Rattle.std.proofs.Common.{List, [], ◌∷◌, ◌++◌, map, length, set, get_or, drop, Option, Some}
use Rattle.std.proofs.Common.{bytes_eq, codes, refl, sym, ap, subst, ◌∙◌, arith}
use Rattle.std.proofs.Common.{below_more, get_or-set_same, get_or-set_other, append_assoc}
use Rattle.std.proofs.Common.{le_refl, zero-le, add-one, drop_of_length-le, ◌-◌, ◌*◌, ⊎_elim}
use Rattle.std.specs.Prelude.{if◌then◌else◌, filter, nat_lt, min}
use Rattle.std.specs.List.{list_all, find, flat_map, range_with_len}
use Rattle.std.proofs.lemmas.Bool.{and_parts, true_from_ne_false, not-true, not-false}
use Rattle.std.proofs.lemmas.Bool.{false≢true, eqb-true, cases_lt, cases_eq}
use Rattle.std.proofs.lemmas.Bool.Decides.{nat_tests}
use Rattle.std.proofs.lemmas.List.{at_drop_more, get_or-map, get_or_past, length-map, map-set}
use Rattle.std.proofs.lemmas.List.Folds.{list_all-append}
use Rattle.std.proofs.lemmas.Option.{same_Some}
use Rattle.std.proofs.lemmas.Slice.Eq.{bytes_eq-Decides}
use Rattle.bilateral.specs.declared.rows.TheConstants.{SLOT_LIMIT}
use Rattle.mms_data.specs.ObjectName.{ObjectName}
use Rattle.tase_points.specs.Sample.{Sample}
use Rattle.data_sets.specs.Books.{Book}
use Rattle.transfer_sets.specs.SlotState.{SlotState}
use Rattle.transfer_sets.specs.SlotMoves.{SlotMove, PointChange, Places, FollowsMoves, changes}
use Rattle.transfer_sets.specs.Banks.{OwnedSlot, free_slot, slot_at, HasChanged, HasMoreRoom}
use Rattle.tase_views.specs.OwnTables.{OwnPoint, OwnDevice, OwnTable, is_scope_of}
use Rattle.tase_views.specs.Objects.{Object, NamedObject, named_by, next_transfer_set}
use Rattle.tase_views.specs.Objects.{indication_point, is_named, object_named, objects}
use Rattle.tase_views.specs.Objects.{selection, timeout, special_objects, next_objects}
use Rattle.tase_views.specs.Objects.{objects_of_device, objects_of_slot, point_object}
use Rattle.tase_views.specs.Slots.{is_point, places_from}
use Rattle.node_core.specs.Feeds.SlotFeeds.{IsSlotChanged, places_by, places_at, IsPlanned}
use Rattle.node_core.specs.Feeds.SlotFeeds.{HasPlanRoom}
use Rattle.node_core.specs.Feeds.SlotFeeds.{places_planned, no_places, watches_point}
use Rattle.node_core.specs.Feeds.SlotFeeds.{watch_count, planned_count}
use Rattle.node_core.proofs.OfObjects.Names.{object_of}

-- ---- which name stands for a point

-- an object with this name is a point with this name, or none
abbrev has_own_name : Object → List ℕ → Bool
has_own_name (indication_point p) item = bytes_eq p.name item
has_own_name _ item = true

abbrev is_own : NamedObject → Bool
is_own o = has_own_name o.object o.item

own_joined : (xs ys : List NamedObject) → list_all is_own xs ≡ true → list_all is_own ys ≡ true
    → list_all is_own (xs ++ ys) ≡ true
own_joined xs ys a b = list_all-append is_own xs ys ∙ rw (a, b) refl

own_unless : (none : Bool) (os : List NamedObject) → list_all is_own os ≡ true
    → list_all is_own (if none then [] else os) ≡ true
own_unless true os own = refl
own_unless false os own = own

own_devices : (devices : List OwnDevice)
    → list_all is_own (flat_map objects_of_device devices) ≡ true
own_devices [] = refl
own_devices (d ∷ devices) =
    own_joined (objects_of_device d) (flat_map objects_of_device devices)
    (own_unless d.row.direct (named_by false (d.row.name ++ codes "_SBO") (selection d)
    ∷ named_by false (d.row.name ++ codes "_TIMEOUT") (timeout d) ∷ []) refl)
    (own_devices devices)

own_slots : (slots : List ℕ) → list_all is_own (flat_map objects_of_slot slots) ≡ true
own_slots [] = refl
own_slots (s ∷ slots) = own_slots slots

own_points : (points : List OwnPoint) → list_all is_own (map point_object points) ≡ true
own_points [] = refl
own_points (p ∷ points) = rw ((bytes_eq-Decides p.name p.name).1 refl) (own_points points)

all_own : (table : OwnTable) → list_all is_own (objects table) ≡ true
all_own table =
    let special = special_objects table in
    let next = next_objects table.slots in
    let devices = flat_map objects_of_device table.devices in
    let slots = flat_map objects_of_slot (range_with_len 0 table.slots) in
    own_joined (special ++ next ++ devices ++ slots) (map point_object table.points)
    (own_joined (special ++ next ++ devices) slots
    (own_joined (special ++ next) devices
    (own_joined special next refl (own_unless (table.slots == 0)
    (named_by false (codes "Next_DSTransfer_Set") next_transfer_set ∷ []) refl))
    (own_devices table.devices))
    (own_slots (range_with_len 0 table.slots)))
    (own_points table.points)

module _ (table : OwnTable) (name : ObjectName) (p : OwnPoint) where
  picked_own : (o : NamedObject) (rest : Option NamedObject) (b : Bool) → is_own o ≡ true
      → is_named table name o ≡ b
      → (object_of rest ≡ Some (indication_point p) → bytes_eq p.name name.item ≡ true)
      → object_of (if b then Some o else rest) ≡ Some (indication_point p)
      → bytes_eq p.name name.item ≡ true
  picked_own o rest true own here on e =
      let object : o.object ≡ indication_point p = same_Some o.object (indication_point p) e in
      let item : p.name ≡ o.item = (bytes_eq-Decides p.name o.item).0
      (subst (λ (x : Object). has_own_name x o.item ≡ true) object own) in
      rw item (and_parts (is_scope_of table name.scope o.vmd) (bytes_eq o.item name.item) here).1
  picked_own o rest false own here on e = on e

  found_own : (os : List NamedObject) → list_all is_own os ≡ true
      → object_of (find (is_named table name) os) ≡ Some (indication_point p)
      → bytes_eq p.name name.item ≡ true
  found_own [] own e = absurd cc
  found_own (o ∷ os) own e =
      let parts = and_parts (is_own o) (list_all is_own os) own in
      picked_own o (find (is_named table name) os) (is_named table name o) parts.0 refl
      (found_own os parts.1) e

module _ (table : OwnTable) (name : ObjectName) (point : List ℕ) where
  -- a name of another item stands for no point with this name
  pub other_item : (found : Option Object) → object_named table name ≡ found
      → not (bytes_eq name.item point) ≡ true → is_point point found ≡ false
  other_item (Some (indication_point p)) is other =
      let own : p.name ≡ name.item = (bytes_eq-Decides p.name name.item).0
      (found_own table name p (objects table) (all_own table) is) in
      rw own (not-true _ other)
  other_item found is other = refl

  -- one of this item that stands for a point stands for the point with this name
  pub same_item : (p : OwnPoint) → Some (indication_point p) ≡ object_named table name
      → not (bytes_eq name.item point) ≡ false
      → is_point point (object_named table name) ≡ true
  same_item p is same =
      let own : p.name ≡ name.item = (bytes_eq-Decides p.name name.item).0
      (found_own table name p (objects table) (all_own table) (sym is)) in
      subst (λ (o : Option Object). is_point point o ≡ true) is (rw own (not-false _ same))

-- whether a name stands for the point with this name
abbrev pub names_it : OwnTable → List ℕ → ObjectName → Bool
names_it table point name = is_point point (object_named table name)

module _ (is : ObjectName → Bool) (names : List ObjectName) (place : ℕ) where
  -- the places from one on, where the name there is one that is looked for, and where it isn't
  pub place_put : (front : List ℕ) (name : ObjectName) → place < length names
      → name ≡ get_or names place name → is name ≡ true
      → (front ++ place ∷ []) ++ places_from (place + 1) is (drop (place + 1) names)
      ≡ front ++ places_from place is (drop place names)
  place_put front name within at here =
      let step = at_drop_more (places_from place is) names place name within in
      append_assoc front (place ∷ []) (places_from (place + 1) is (drop (place + 1) names))
      ∙ ap (λ (l : List ℕ). front ++ l) (sym (step ∙ rw (← at) (rw here refl)))

  pub place_passed : (name : ObjectName) → place < length names → name ≡ get_or names place name
      → is name ≡ false → places_from (place + 1) is (drop (place + 1) names)
      ≡ places_from place is (drop place names)
  place_passed name within at other =
      sym (at_drop_more (places_from place is) names place name within
      ∙ rw (← at) (rw other refl))

  pub places_end : length names ≤ place → places_from place is (drop place names) ≡ []
  places_end past = rw (drop_of_length-le names past) refl

-- ---- plans

one_more : (n : ℕ) → no_places n ++ [] ∷ [] ≡ no_places (suc n)
one_more zero = refl
one_more (suc n) = ap (λ (plan : List (List ℕ)). [] ∷ plan) (one_more n)

pub no_places-more : (n : ℕ) → no_places n ++ [] ∷ [] ≡ no_places (n + 1)
no_places-more n = rw (add-one n) (one_more n)

module _ {A : Type 0} (f : A → List ℕ) (plans : List A) where
  pub planned-at : (n : ℕ) (d : A) → n < length plans
      → places_at (map f plans) n ≡ f (get_or plans n d)
  planned-at n d within = get_or-map f plans n d [] within

  -- what is read at a place is what is planned there
  pub planned-read : (plan : List (List ℕ)) (n : ℕ) (one : A) (read : List ℕ) → n < length plans
      → one ≡ get_or plans n one → read ≡ f one → map f plans ≡ plan → read ≡ places_at plan n
  planned-read plan n one read within there here is =
      here ∙ ap f there ∙ sym (planned-at n one within)
      ∙ ap (λ (all : List (List ℕ)). places_at all n) is

  -- one plan more
  pub planned-more : (n : ℕ) (one : A) (want : ℕ → List ℕ) → n < length plans
      → ((s : ℕ) → s < n → places_at (map f plans) s ≡ want s) → f one ≡ want n
      → (s : ℕ) → s < n + 1 → places_at (map f (set plans n one)) s ≡ want s
  planned-more n one want within below here =
      let there : n < length (map f plans) = rw (length-map plans f) within in
      rw (map-set f plans n one)
      (below_more (λ s. places_at (set (map f plans) n (f one)) s ≡ want s) n
      (λ s less. let apart : s ≡ n → ⊥ = omega arith in
      get_or-set_other (map f plans) n s (f one) [] apart ∙ below s less)
      (get_or-set_same (map f plans) n (f one) [] there ∙ here))

-- past those that there are nothing is to be planned
pub none_free : (table : OwnTable) (book : Book) (name : List ℕ) (slots : List OwnedSlot) (s : ℕ)
    → length slots ≤ s → places_planned table book name (slot_at slots s) ≡ []
none_free table book name slots s past =
    ap (places_planned table book name) (get_or_past slots s free_slot past)

-- a plan of as many transfer sets as there are
pub all_planned : (table : OwnTable) (book : Book) (name : List ℕ) (slots : List OwnedSlot)
    (plan : List (List ℕ)) (n : ℕ) → length plan ≡ SLOT_LIMIT → length slots ≡ SLOT_LIMIT
    → SLOT_LIMIT ≤ n
    → ((s : ℕ) → s < n → places_at plan s ≡ places_planned table book name (slot_at slots s))
    → IsPlanned table book name slots plan
all_planned table book name slots plan n many there all below = record {
  many = many;
  each = λ s. ⊎_elim (below s)
      (λ past. get_or_past plan s [] (omega (arith, past, many, all))
      ∙ sym (none_free table book name slots s (omega (arith, past, there, all))))
      (cases_lt s n);
}

-- ---- room for what is planned

module _ (plan : List (List ℕ)) (n : ℕ) (mid : List OwnedSlot)
    (below : (s : ℕ) → s < n → length (places_at plan s) ≤ (slot_at mid s).spare) where
  pub room-more : (new : List OwnedSlot) → HasMoreRoom mid new
      → length (places_at plan n) ≤ (slot_at new n).spare
      → (s : ℕ) → s < n + 1 → length (places_at plan s) ≤ (slot_at new s).spare
  room-more new more =
      below_more (λ s. length (places_at plan s) ≤ (slot_at new s).spare) n
      (λ s less. omega (arith, below s less, more.spare s))

  pub room-passed : (length (places_at plan n) == 0) ≡ true
      → (s : ℕ) → s < n + 1 → length (places_at plan s) ≤ (slot_at mid s).spare
  room-passed none =
      let zero_long : length (places_at plan n) ≡ 0 = eqb-true _ _ none in
      below_more (λ s. length (places_at plan s) ≤ (slot_at mid s).spare) n below
      (omega (arith, zero_long))

  pub all_room : length plan ≤ n → HasPlanRoom plan mid
  all_room all s = ⊎_elim (below s)
      (λ past. let free : places_at plan s ≡ [] =
      get_or_past plan s [] (omega (arith, past, all)) in rw free zero-le)
      (cases_lt s n)

-- room is made once and again
pub HasMoreRoom-then : (old mid new : List OwnedSlot) → HasMoreRoom old mid → HasMoreRoom mid new
    → HasMoreRoom old new
HasMoreRoom-then old mid new a b = record {
  many = b.many ∙ a.many;
  owner = λ s. b.owner s ∙ a.owner s;
  state = λ s. b.state s ∙ a.state s;
  spare = λ s. omega (arith, a.spare s, b.spare s);
}

-- ---- what is noted

abbrev pub change_of : ℕ → Sample → ℕ → List ℕ → PointChange
change_of moment value count name =
    record { point = name; moment = moment; value = value; count = count }

-- transfer sets of which those below a number are behind a change as it was planned
pub record IsNotedTo (change : List ℕ → PointChange) (n : ℕ) (plan : List (List ℕ))
    (old new : List OwnedSlot) : Type 0 where
  pub many : length new ≡ length old
  pub rest : (s : ℕ) → n ≤ s → slot_at new s ≡ slot_at old s
  pub each : (table : OwnTable) (book : Book) (name : List ℕ)
      → IsPlanned table book name old plan → (s : ℕ) → s < n
      → IsSlotChanged (places_by table book (slot_at old s).state.wish name) (change name)
      (slot_at old s) (slot_at new s)

-- the law of a transfer set on which a change doesn't bear
abbrev pub Passes : Type 0
Passes = (places : Places) (moves : List SlotMove) (s : SlotState) (change : PointChange)
    → FollowsMoves places moves s → (s.wish.status ≡ true → places change.point ≡ [])
    → FollowsMoves places (changes change ∷ moves) s

-- a change of a point leaves each wish
pub wishes_changed : (places : List ℕ) (change : PointChange) (slot : ℕ)
    (old mid new : List OwnedSlot) → HasChanged places change slot mid new
    → ((s : ℕ) → (slot_at mid s).state.wish ≡ (slot_at old s).state.wish) → (s : ℕ)
    → (slot_at new s).state.wish ≡ (slot_at old s).state.wish
wishes_changed places change slot old mid new h before s =
    ⊎_elim
    (λ (same : s ≡ slot). ap (λ (k : ℕ). (slot_at new k).state.wish) same ∙ h.wish
    ∙ sym (ap (λ (k : ℕ). (slot_at mid k).state.wish) same) ∙ before s)
    (λ apart. ap (λ (x : OwnedSlot). x.state.wish) (h.others s apart) ∙ before s)
    (cases_eq s slot)

-- one on which a change doesn't bear stays
slot_stays : Passes → (here : List ℕ) (change : PointChange) (slot : OwnedSlot)
    → (slot.state.wish.status ≡ true → here ≡ []) → IsSlotChanged here change slot slot
slot_stays passes here change slot none = record {
  owner = refl;
  wish = refl;
  stays = λ e. refl;
  follows = λ members moves same f.
      passes members moves slot.state change f (λ on. same ∙ none on);
}

planned_on : (table : OwnTable) (book : Book) (name : List ℕ) (slot : OwnedSlot)
    → slot.state.wish.status ≡ true
    → places_planned table book name slot ≡ places_by table book slot.state.wish name
planned_on table book name slot on =
    ap (λ (b : Bool). if b then places_by table book slot.state.wish name else []) on

unplanned_stays : Passes → (table : OwnTable) (book : Book) (name : List ℕ)
    (change : PointChange) (slot : OwnedSlot) → places_planned table book name slot ≡ []
    → IsSlotChanged (places_by table book slot.state.wish name) change slot slot
unplanned_stays passes table book name change slot none =
    slot_stays passes (places_by table book slot.state.wish name) change slot
    (λ on. sym (planned_on table book name slot on) ∙ none)

-- what is planned for one is only planned where it is enabled
planned_is_on : (table : OwnTable) (book : Book) (name : List ℕ) (slot : OwnedSlot)
    → (places_planned table book name slot ≡ [] → ⊥) → slot.state.wish.status ≡ true
planned_is_on table book name slot some = true_from_ne_false slot.state.wish.status
    (λ off. some
    (ap (λ (b : Bool). if b then places_by table book slot.state.wish name else []) off))

some_planned : (places : List ℕ) → (length places == 0) ≡ false → places ≡ [] → ⊥
some_planned places some none =
    false≢true (sym some ∙ ap (λ (l : List ℕ). length l == 0) none)

none_planned : (places : List ℕ) → (length places == 0) ≡ true → places ≡ []
none_planned [] none = refl
none_planned (place ∷ places) none =
    let zero_long : length (place ∷ places) ≡ 0 = eqb-true _ _ none in absurd (omega arith)

module _ (change : List ℕ → PointChange) (plan : List (List ℕ)) (n : ℕ) where
  pub noted-passed : Passes → (old mid : List OwnedSlot) → IsNotedTo change n plan old mid
      → (length (places_at plan n) == 0) ≡ true → IsNotedTo change (n + 1) plan old mid
  noted-passed passes old mid so none = record {
    many = so.many;
    rest = λ s past. so.rest s (omega (arith, past));
    each = λ table book name planned.
        below_more (λ s. IsSlotChanged (places_by table book (slot_at old s).state.wish name)
        (change name) (slot_at old s) (slot_at mid s)) n
        (so.each table book name planned)
        (rw (so.rest n (le_refl n)) (unplanned_stays passes table book name (change name)
        (slot_at old n) (sym (planned.each n) ∙ none_planned (places_at plan n) none)));
  }

  changed_here : (old mid new : List OwnedSlot) → slot_at mid n ≡ slot_at old n
      → (places_at plan n ≡ [] → ⊥)
      → ((name : List ℕ) → HasChanged (places_at plan n) (change name) n mid new)
      → (table : OwnTable) (book : Book) (name : List ℕ) → IsPlanned table book name old plan
      → IsSlotChanged (places_by table book (slot_at old n).state.wish name) (change name)
      (slot_at old n) (slot_at new n)
  changed_here old mid new same some changed table book name planned =
      let slot : OwnedSlot = slot_at old n in
      let on : slot.state.wish.status ≡ true =
      planned_is_on table book name slot (λ e. some (planned.each n ∙ e)) in
      let here : places_at plan n ≡ places_by table book slot.state.wish name =
      planned.each n ∙ planned_on table book name slot on in
      record {
        owner = (changed name).owner ∙ ap (λ (s : OwnedSlot). s.owner) same;
        wish = (changed name).wish ∙ ap (λ (s : OwnedSlot). s.state.wish) same;
        stays = λ none. absurd (some (here ∙ none on));
        follows = λ members moves places f. (changed name).follows members moves
            (places ∙ sym here)
            (subst (λ (s : OwnedSlot). FollowsMoves members moves s.state) (sym same) f);
      }

  pub noted-changed : (old mid new : List OwnedSlot) → IsNotedTo change n plan old mid
      → (length (places_at plan n) == 0) ≡ false
      → ((name : List ℕ) → HasChanged (places_at plan n) (change name) n mid new)
      → IsNotedTo change (n + 1) plan old new
  noted-changed old mid new so some changed = record {
    many = (changed []).many ∙ so.many;
    rest = λ s past. (changed []).others s (omega (arith, past)) ∙ so.rest s (omega (arith, past));
    each = λ table book name planned.
        below_more (λ s. IsSlotChanged (places_by table book (slot_at old s).state.wish name)
        (change name) (slot_at old s) (slot_at new s)) n
        (λ s less. let apart : s ≡ n → ⊥ = omega arith in
        rw ((changed []).others s apart) (so.each table book name planned s less))
        (changed_here old mid new (so.rest n (le_refl n)) (some_planned (places_at plan n) some)
        changed table book name planned);
  }

-- where those that are noted are as many as there are, all are behind the change
pub all_noted : (change : List ℕ → PointChange) (plan : List (List ℕ)) (n : ℕ)
    (old new : List OwnedSlot) → Passes → length old ≡ SLOT_LIMIT → SLOT_LIMIT ≤ n
    → IsNotedTo change n plan old new → (table : OwnTable) (book : Book) (name : List ℕ)
    → IsPlanned table book name old plan → (s : ℕ)
    → IsSlotChanged (places_by table book (slot_at old s).state.wish name) (change name)
    (slot_at old s) (slot_at new s)
all_noted change plan n old new passes many all so table book name planned s =
    ⊎_elim (so.each table book name planned s)
    (λ past. rw (so.rest s past) (unplanned_stays passes table book name (change name)
    (slot_at old s) (none_free table book name old s (omega (arith, past, many, all)))))
    (cases_lt s n)

-- ---- how many are looked at

-- of the transfer sets that a table may offer, how many from one on have a property
abbrev pub count_from : (ℕ → Bool) → ℕ → ℕ
count_from has n = length (filter has (range_with_len n (SLOT_LIMIT - n)))

-- so many were looked at that with those from one on it is no more than all of them, over what it
-- was before
abbrev pub IsLookedTo : (ℕ → Bool) → ℕ → ℕ → ℕ → Type 0
IsLookedTo has n old now = now + count_from has n ≤ old + count_from has 0

-- the same where each of them is looked at twice
abbrev pub IsLookedTwiceTo : (ℕ → Bool) → ℕ → ℕ → ℕ → Type 0
IsLookedTwiceTo has n old now = now + 2 * count_from has n ≤ old + 2 * count_from has 0

-- whether something is planned for a transfer set; whether it is enabled and names a point
abbrev pub is_planned : List (List ℕ) → ℕ → Bool
is_planned plan s = nat_lt 0 (length (places_at plan s))

abbrev pub is_watcher : OwnTable → Book → List ℕ → List OwnedSlot → ℕ → Bool
is_watcher table book name slots s = watches_point table book name (slot_at slots s)

module _ (has : ℕ → Bool) (n : ℕ) where
  count_step : n < SLOT_LIMIT → (here : Bool) → has n ≡ here → count_from has n
      ≡ (if here then suc (count_from has (n + 1)) else count_from has (n + 1))
  count_step within true here =
      let more : SLOT_LIMIT - n ≡ suc (SLOT_LIMIT - (n + 1)) = omega arith in rw (more, here) refl
  count_step within false here =
      let more : SLOT_LIMIT - n ≡ suc (SLOT_LIMIT - (n + 1)) = omega arith in rw (more, here) refl

  -- one that has the property is looked at, another isn't
  pub looked-at : (old mid new : ℕ) → n < SLOT_LIMIT → has n ≡ true → new ≤ mid + 1
      → IsLookedTo has n old mid → IsLookedTo has (n + 1) old new
  looked-at old mid new within here one so =
      let step = count_step within true here in omega (arith, step, one, so)

  pub looked-past : (old now : ℕ) → n < SLOT_LIMIT → has n ≡ false → IsLookedTo has n old now
      → IsLookedTo has (n + 1) old now
  looked-past old now within other so =
      let step = count_step within false other in omega (arith, step, so)

  pub looked-twice-at : (old mid new : ℕ) → n < SLOT_LIMIT → has n ≡ true → new ≤ mid + 2
      → IsLookedTwiceTo has n old mid → IsLookedTwiceTo has (n + 1) old new
  looked-twice-at old mid new within here two so =
      let step = count_step within true here in omega (arith, step, two, so)

  pub looked-twice-past : (old now : ℕ) → n < SLOT_LIMIT → has n ≡ false
      → IsLookedTwiceTo has n old now → IsLookedTwiceTo has (n + 1) old now
  looked-twice-past old now within other so =
      let step = count_step within false other in omega (arith, step, so)

-- how many they are stays within all of them
pub looked-within : (has : ℕ → Bool) (n old now : ℕ) → IsLookedTo has n old now
    → now ≤ old + count_from has 0
looked-within has n old now so = omega (arith, so)

filter_alike : (has other : ℕ → Bool) → ((s : ℕ) → has s ≡ other s) → (l : List ℕ)
    → filter has l ≡ filter other l
filter_alike has other same [] = refl
filter_alike has other same (s ∷ l) = rw (same s, filter_alike has other same l) refl

-- as much is planned as is looked for
pub planned_count-watched : (table : OwnTable) (book : Book) (name : List ℕ)
    (slots : List OwnedSlot) (plan : List (List ℕ)) → IsPlanned table book name slots plan
    → planned_count plan ≡ watch_count table book name slots
planned_count-watched table book name slots plan planned =
    ap length (filter_alike (is_planned plan) (is_watcher table book name slots)
    (λ s. ap (λ (places : List ℕ). nat_lt 0 (length places)) (planned.each s))
    (range_with_len 0 SLOT_LIMIT))

-- those that were looked at while a change was planned, and while room was made for it
pub looked-twice : (table : OwnTable) (book : Book) (name : List ℕ) (slots : List OwnedSlot)
    (plan : List (List ℕ)) (old mid new : ℕ) → IsPlanned table book name slots plan
    → mid ≤ old + watch_count table book name slots → new ≤ mid + planned_count plan
    → new ≤ old + 2 * watch_count table book name slots
looked-twice table book name slots plan old mid new planned first second =
    let same = planned_count-watched table book name slots plan planned in
    omega (arith, same, first, second)

-- what is planned is planned where there is more room
pub planned-roomier : (table : OwnTable) (book : Book) (name : List ℕ) (old new : List OwnedSlot)
    (plan : List (List ℕ)) → HasMoreRoom old new → IsPlanned table book name old plan
    → IsPlanned table book name new plan
planned-roomier table book name old new plan more planned = record {
  many = planned.many;
  each = λ s. planned.each s ∙ ap (λ (state : SlotState). if state.wish.status
      then places_by table book state.wish name else []) (sym (more.state s));
}

some_length : (n : ℕ) → nat_lt 0 (suc n) ≡ true
some_length n = grind (arith, nat_tests)

no_long : (places : List ℕ) → nat_lt 0 (length places) ≡ false → places ≡ []
no_long [] none = refl
no_long (place ∷ places) none = absurd (false≢true (sym none ∙ some_length (length places)))

-- for one that doesn't watch a point nothing is to be planned
pub unwatched-planned : (table : OwnTable) (book : Book) (name : List ℕ) (slot : OwnedSlot)
    → watches_point table book name slot ≡ false → places_planned table book name slot ≡ []
unwatched-planned table book name slot =
    no_long (places_planned table book name slot)

some_long : (places : List ℕ) → (length places == 0) ≡ false → nat_lt 0 (length places) ≡ true
some_long [] some = absurd cc
some_long (place ∷ places) some = some_length (length places)

none_long : (places : List ℕ) → (length places == 0) ≡ true → nat_lt 0 (length places) ≡ false
none_long places none = rw (none_planned places none) refl

-- something is planned for a transfer set exactly where there are places for it
pub planned-some : (plan : List (List ℕ)) (s : ℕ) → (length (places_at plan s) == 0) ≡ false
    → is_planned plan s ≡ true
planned-some plan s = some_long (places_at plan s)

pub planned-none : (plan : List (List ℕ)) (s : ℕ) → (length (places_at plan s) == 0) ≡ true
    → is_planned plan s ≡ false
planned-none plan s = none_long (places_at plan s)
