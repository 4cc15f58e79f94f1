-- The index of a peer as it is made: what its transfer sets watch, and the room for it.
use Rattle.std.proofs.Common.{◌≡◌, ◌<◌, ◌≤◌, ◌+◌, ◌⊎◌, inl, inr, ℕ, zero, suc, eqb, ltb, Bool, true}
use Rattle.std.proofs.Common.{false, ◌&&◌, ◌||◌, List, [], ◌∷◌, map, length, set, get_or, replicate}
use Rattle.std.proofs.Common.{Option, Some, None, is_some, refl, sym, ap, subst, ◌∙◌, arith}
use Rattle.std.proofs.Common.{length-set, get_or-set_same, get_or-set_other, eqb-true}
use Rattle.std.specs.Prelude.{if◌then◌else◌}
use Rattle.std.specs.List.{All, list_any}
use Rattle.std.specs.Option.{unwrap_or}
use Rattle.std.proofs.lemmas.Bool.{cases_eq, cases_order, lt-ltb, ltb-true, false_from_ne_true}
use Rattle.std.proofs.lemmas.Bool.{eq-eqb, ne_eqb}
use Rattle.std.proofs.lemmas.List.{length-map, length-replicate}
use Rattle.std.proofs.lemmas.List.Quantifiers.{position-Some}
use Rattle.mms_data.specs.ObjectName.{ObjectName}
use Rattle.bilateral.specs.declared.rows.Table.{Table}
use Rattle.bilateral.specs.declared.rows.TheConstants.{SLOT_LIMIT}
use Rattle.bilateral.specs.Rows.{CentreRows, point_of, place_of_see, variant_of}
use Rattle.data_sets.specs.Books.{Book, members_in}
use Rattle.transfer_sets.specs.declared.wish.Wish.{Wish}
use Rattle.transfer_sets.specs.Banks.{OwnedSlot, free_slot, free_slots, slot_at}
use Rattle.transfer_sets.specs.NextDue.{IsNextMoment}
use Rattle.transfer_sets.specs.DueIndex.{next_at, IsDueIndex}
use Rattle.point_db.specs.WatchLists.{PointSlots, AreAscending, is_watching, unwatched, cleared}
use Rattle.point_db.specs.WatchLists.{point_slots, Watches, with_watch, HasMoreSpare}
use Rattle.point_db.proofs.WatchChanges.{HasMoreSpare-length}
use Rattle.point_db.proofs.WatchLaws.{slots-kept}
use Rattle.node_core.proofs.OfFeeds.WatchRoom.{watching-added, finds_room, below-added, room-added}
use Rattle.node_core.proofs.OfFeeds.WatchRoom.{point-cleared}
use Rattle.tase_views.specs.Objects.{object_named}
use Rattle.tase_views.specs.Slots.{is_point, wished_members, places_from, places_told}
use Rattle.node_core.specs.declared.feeds.index.PeerIndex.{PeerIndex}
use Rattle.node_core.specs.Objects.Found.{TableInForce, offered, table_at}
use Rattle.node_core.specs.PeerParts.{new_part, no_sets}
use Rattle.node_core.specs.Feeds.SlotFeeds.{places_by, watches_point}
use Rattle.node_core.specs.Feeds.Indexed.{HasWatchRoom, HasWatched, IsIndexed}
use Rattle.node_core.proofs.OfObjects.Known.{some_of, no_see}

-- ---- what a transfer set watches from now on

nothing_more : (a b c : Bool) → c ≡ false → a ≡ (a || (b && c))
nothing_more true b c none = refl
nothing_more false true c none = sym none
nothing_more false false c none = refl

both_more : (a b c d : Bool) → ((a || (b && c)) || (b && d)) ≡ (a || (b && (c || d)))
both_more true b c d = refl
both_more false true c d = refl
both_more false false c d = refl

module _ (points slot : ℕ) where
  pub watched-none : (names : ℕ → Bool) (watch : List PointSlots)
      → ((p : ℕ) → p < points → names p ≡ false) → HasWatched points slot names watch watch
  watched-none names watch none = record {
    watch = λ p s there. nothing_more (is_watching s (point_slots watch p)) (eqb s slot) (names p)
        (none p there);
    room = λ table room. room;
  }

  pub watched-as : (names other : ℕ → Bool) (old new : List PointSlots)
      → ((p : ℕ) → p < points → names p ≡ other p) → HasWatched points slot names old new
      → HasWatched points slot other old new
  watched-as names other old new same w = record {
    watch = λ p s there. w.watch p s there
        ∙ ap (λ (b : Bool). is_watching s (point_slots old p) || (eqb s slot && b)) (same p there);
    room = w.room;
  }

  pub watched-then : (names more : ℕ → Bool) (old mid new : List PointSlots)
      → HasWatched points slot names old mid → HasWatched points slot more mid new
      → HasWatched points slot (λ p. names p || more p) old new
  watched-then names more old mid new first second = record {
    watch = λ p s there. second.watch p s there
        ∙ ap (λ (b : Bool). b || (eqb s slot && more p)) (first.watch p s there)
        ∙ both_more (is_watching s (point_slots old p)) (eqb s slot) (names p) (more p);
    room = λ table room. second.room table (first.room table room);
  }

  pub watched-one : (place : ℕ) (watch : List PointSlots) → length watch ≡ points
      → place < points → slot < SLOT_LIMIT
      → HasWatched points slot (λ p. eqb place p) watch (with_watch watch place slot)
  watched-one place watch many there below =
      let within : place < length watch = omega (arith, many, there) in
      record {
        watch = λ p s known. watching-added watch place slot p s within;
        room = λ table room. record {
          many = length-set watch place _ ∙ room.many;
          few = λ p. below-added watch place slot p SLOT_LIMIT within below (room.few p);
          room = λ p shown. room-added watch place slot p SLOT_LIMIT within (room.room p shown);
        };
      }

-- ---- room

-- at a point that the table shows there is spare for a transfer set that doesn't watch it yet
pub room_for : (points slot place : ℕ) (table : Table) (watch : List PointSlots)
    → HasWatchRoom points table watch → AreAscending (point_slots watch place).slots
    → is_some (place_of_see table place) ≡ true → slot < SLOT_LIMIT
    → Watches watch place slot ⊎ (1 ≤ (point_slots watch place).spare)
room_for points slot place table watch room up shown below =
    finds_room (point_slots watch place) slot SLOT_LIMIT up (room.few place) below
    (room.room place shown)

pub room-cleared : (points : ℕ) (table : Table) (watch : List PointSlots)
    → HasWatchRoom points table watch → HasWatchRoom points table (map cleared watch)
room-cleared points table watch room = record {
  many = length-map watch cleared ∙ room.many;
  few = λ p. subst (λ (x : PointSlots). All (λ s. s < SLOT_LIMIT) x.slots)
      (sym (point-cleared watch p)) (λ k d within. absurd (omega (arith, within)));
  room = λ p shown. subst (λ (x : PointSlots). SLOT_LIMIT ≤ length x.slots + x.spare)
      (sym (point-cleared watch p)) (omega (arith, room.room p shown));
}

-- room at the point of each row of a table is room at each point that it shows
pub room-shown : (table : Table) (watch : List PointSlots)
    → All (λ see. SLOT_LIMIT ≤ (point_slots watch see.point).spare) table.sees
    → (p : ℕ) → is_some (place_of_see table p) ≡ true → SLOT_LIMIT ≤ (point_slots watch p).spare
room-shown table watch all p shown =
    let place = some_of (place_of_see table p) shown in
    let at = position-Some (λ see. eqb see.point p) table.sees place.0 no_see place.1 in
    let same : (get_or table.sees place.0 no_see).point ≡ p = eqb-true _ _ at.1 in
    subst (λ (n : ℕ). SLOT_LIMIT ≤ (point_slots watch n).spare) same (all place.0 no_see at.0)

-- ---- an index of which nothing is enabled yet

none_at : (n p : ℕ) → (point_slots (replicate n unwatched) p).slots ≡ []
none_at zero p = refl
none_at (suc n) zero = refl
none_at (suc n) (suc p) = none_at n p

no_slots : (points p : ℕ) (watch : List PointSlots) → HasMoreSpare (replicate points unwatched) watch
    → (point_slots watch p).slots ≡ []
no_slots points p watch more =
    slots-kept (replicate points unwatched) watch p more ∙ none_at points p

free_at : (n s : ℕ) → slot_at (free_slots n) s ≡ free_slot
free_at zero s = refl
free_at (suc n) zero = refl
free_at (suc n) (suc s) = free_at n s

room-made : (points : ℕ) (table : Table) (watch : List PointSlots)
    → HasMoreSpare (replicate points unwatched) watch
    → ((p : ℕ) → is_some (place_of_see table p) ≡ true → SLOT_LIMIT ≤ (point_slots watch p).spare)
    → HasWatchRoom points table watch
room-made points table watch more room = record {
  many = HasMoreSpare-length (replicate points unwatched) watch more
      ∙ length-replicate points unwatched;
  few = λ p. subst (λ (slots : List ℕ). All (λ s. s < SLOT_LIMIT) slots)
      (sym (no_slots points p watch more)) (λ k d within. absurd (omega (arith, within)));
  room = λ p shown. omega (arith, room p shown);
}

abbrev no_moment : Option ℕ
no_moment = None

pub first_index : (rows : CentreRows) (peer limit : ℕ) (index : PeerIndex)
    → HasMoreSpare (replicate (length rows.points) unwatched) index.watch
    → ((variant p : ℕ) → is_some (place_of_see (variant_of rows peer variant) p) ≡ true
    → SLOT_LIMIT ≤ (point_slots index.watch p).spare)
    → index.dues ≡ replicate SLOT_LIMIT None
    → IsDueIndex (free_slots SLOT_LIMIT) 0 (replicate SLOT_LIMIT None)
    → IsIndexed rows peer 0 (new_part limit) index
first_index rows peer limit index more room dues start = record {
  roomy = record {
    slots = ap length dues ∙ length-replicate SLOT_LIMIT no_moment;
    watch = λ variant. room-made (length rows.points) (variant_of rows peer variant) index.watch
        more (room variant);
  };
  dues = subst (IsDueIndex (free_slots SLOT_LIMIT) 0) (sym dues) start;
  watch = record {
    each = λ p s there below.
        ap (λ slots. list_any (λ other. eqb other s) slots)
        (no_slots (length rows.points) p index.watch more)
        ∙ ap (watches_point (offered (table_at rows peer 0)) (no_sets limit) (point_of rows p).name)
        (sym (free_at SLOT_LIMIT s));
  };
}

-- ---- the points that a data set names

-- whether one of these members names a point
abbrev pub named_in : TableInForce → List ObjectName → ℕ → Bool
named_in t members p =
    list_any (λ member. is_point (point_of t.rows p).name (object_named (offered t) member)) members

places_any : (is : ObjectName → Bool) (place : ℕ) (members : List ObjectName)
    → ltb 0 (length (places_from place is members)) ≡ list_any is members
places_any is place [] = refl
places_any is place (m ∷ members) = by (is m) (places_any is (place + 1) members)
  where
    by : (b : Bool) → ltb 0 (length (places_from (place + 1) is members)) ≡ list_any is members
        → ltb 0 (length (if b then place ∷ places_from (place + 1) is members
        else places_from (place + 1) is members)) ≡ (b || list_any is members)
    by true rest = lt-ltb 0 (suc (length (places_from (place + 1) is members))) (omega arith)
    by false rest = rest

-- whether the data set that a wish names is there and names a point, and the wish enables it
abbrev pub names_of_wish : TableInForce → Book → Wish → ℕ → Bool
names_of_wish t book wish p = ltb 0 (length (if wish.status
    then places_by (offered t) book wish (point_of t.rows p).name else []))

module _ (t : TableInForce) (book : Book) (wish : Wish) where
  abbrev names_found : ℕ → Option (List ObjectName) → Bool → Bool
  names_found p found status = ltb 0 (length (if status
      then places_told (offered t) (unwrap_or found []) (point_of t.rows p).name else []))

  pub wish-off : wish.status ≡ false → (p : ℕ) → names_of_wish t book wish p ≡ false
  wish-off off p =
      ap (names_found p (wished_members (offered t) (members_in book.sets) wish)) off

  pub wish-missing : wished_members (offered t) (members_in book.sets) wish ≡ None
      → (p : ℕ) → names_of_wish t book wish p ≡ false
  wish-missing none p =
      ap (λ (found : Option (List ObjectName)). names_found p found wish.status) none
      ∙ by wish.status
    where
      by : (b : Bool) → names_found p None b ≡ false
      by true = refl
      by false = refl

  pub wish-there : (members : List ObjectName) → wish.status ≡ true
      → wished_members (offered t) (members_in book.sets) wish ≡ Some members
      → (p : ℕ) → named_in t members p ≡ names_of_wish t book wish p
  wish-there members on there p =
      sym (places_any (λ member. is_point (point_of t.rows p).name
      (object_named (offered t) member)) 0 members)
      ∙ sym (ap (names_found p (Some members)) on)
      ∙ sym (ap (λ (found : Option (List ObjectName)). names_found p found wish.status) there)

-- ---- an index that is made anew, one transfer set after another

-- the first so many transfer sets watch the points that their data sets name, the others none
pub record IsWatchTo (n : ℕ) (t : TableInForce) (book : Book) (slots : List OwnedSlot)
    (watch : List PointSlots) : Type 0 where
  pub each : (p s : ℕ) → p < length t.rows.points → is_watching s (point_slots watch p)
      ≡ (ltb s n && names_of_wish t book (slot_at slots s).state.wish p)

none-below : (s : ℕ) → ltb s 0 ≡ false
none-below s = false_from_ne_true _ (λ e. omega (arith, ltb-true s 0 e))

one_more : (s n : ℕ) (f : ℕ → Bool) → ((ltb s n && f s) || (eqb s n && f n)) ≡ (ltb s (n + 1) && f s)
one_more s n f = elim (cases_order s n) [
  | inl same ↦ rw (
    same,
    eq-eqb n n refl,
    lt-ltb n (n + 1) (omega arith),
    false_from_ne_true (ltb n n) (λ e. omega (arith, ltb-true n n e)),
  ) refl
  | inr (inl below) ↦ rw (
    lt-ltb s n below,
    lt-ltb s (n + 1) (omega (arith, below)),
    ne_eqb s n (λ e. omega (arith, below, e)),
  ) (by (f s))
  | inr (inr above) ↦ rw (
    ne_eqb s n (λ e. omega (arith, above, e)),
    false_from_ne_true (ltb s n) (λ e. omega (arith, above, ltb-true s n e)),
    false_from_ne_true (ltb s (n + 1)) (λ e. omega (arith, above, ltb-true s (n + 1) e)),
  ) refl
]
  where
    by : (b : Bool) → (b || false) ≡ b
    by true = refl
    by false = refl

module _ (t : TableInForce) (book : Book) (slots : List OwnedSlot) where
  pub watch-cleared : (watch : List PointSlots) → IsWatchTo 0 t book slots (map cleared watch)
  watch-cleared watch = record {
    each = λ p s there. ap (is_watching s) (point-cleared watch p)
        ∙ sym (ap (λ (b : Bool). b && names_of_wish t book (slot_at slots s).state.wish p)
        (none-below s));
  }

  pub watch-more : (n : ℕ) (old new : List PointSlots) (wish : Wish)
      → wish ≡ (slot_at slots n).state.wish → IsWatchTo n t book slots old
      → HasWatched (length t.rows.points) n (names_of_wish t book wish) old new
      → IsWatchTo (n + 1) t book slots new
  watch-more n old new wish same before w =
      let names : ℕ → ℕ → Bool = λ p s. names_of_wish t book (slot_at slots s).state.wish p in
      record {
        each = λ p s there. w.watch p s there
            ∙ ap (λ (b : Bool). b || (eqb s n && names_of_wish t book wish p)) (before.each p s there)
            ∙ ap (λ (x : Wish). (ltb s n && names p s) || (eqb s n && names_of_wish t book x p)) same
            ∙ one_more s n (names p);
      }

pub dues-more : (slots : List OwnedSlot) (n now : ℕ) (dues : List (Option ℕ)) (next : Option ℕ)
    → n < length dues
    → ((s : ℕ) → s < n → IsNextMoment (slot_at slots s).state now (next_at dues s))
    → IsNextMoment (slot_at slots n).state now next
    → (s : ℕ) → s < n + 1
    → IsNextMoment (slot_at slots s).state now (next_at (set dues n next) s)
dues-more slots n now dues next within before here s below = elim (cases_eq s n) [
  | inl same ↦ rw (same, get_or-set_same dues n next None within) here
  | inr apart ↦ rw (get_or-set_other dues n s next None apart)
      (before s (omega (arith, below, apart)))
]
