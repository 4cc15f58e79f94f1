-- What a node keeps of the transfer sets of a peer is what its view shows, behind each move more.
use Rattle.std.proofs.Common.{◌≡◌, ◌==◌, ℕ, zero, suc, ◌+◌, ◌<◌, ◌≤◌, nat_eq, Bool, true, false}
use Rattle.std.proofs.Common.{not, ◌&&◌, ◌⊎◌, List, [], ◌∷◌, map, length, set, Option, Some, None}
use Rattle.std.proofs.Common.{Result, Ok, Err, refl, sym, ap, subst, ◌∙◌, ⊎_elim, arith, length-set}
use Rattle.std.proofs.Common.{get_or-set_same, get_or-set_other, inl, inr}
use Rattle.std.specs.Prelude.{◌||◌, if◌then◌else◌, find, is_none, is_some, bytes_eq}
use Rattle.std.specs.List.{range_with_len}
use Rattle.std.specs.Option.{option_eq, unwrap_or}
use Rattle.std.proofs.lemmas.Bool.{cases_eq, cases_lt, eq-eqb, eqb-true, ne_eqb, false≢true}
use Rattle.std.proofs.lemmas.Bool.{and_right}
use Rattle.std.proofs.lemmas.List.{length-map, get_or-map, get_or_past}
use Rattle.std.proofs.lemmas.Option.{same_Some, none-some}
use Rattle.std.proofs.lemmas.Slice.Eq.{bytes_eq-Decides}
use Rattle.bilateral.specs.declared.rows.TheConstants.{SLOT_LIMIT}
use Rattle.mms_data.specs.Datum.{Datum}
use Rattle.mms_data.specs.ObjectName.{ObjectName, same_name}
use Rattle.data_sets.specs.Books.{Book, members_in}
use Rattle.transfer_sets.specs.declared.wish.Wish.{Wish}
use Rattle.transfer_sets.specs.declared.wish.WishFault.{WishFault}
use Rattle.transfer_sets.specs.declared.wish.WishFault.TheVariants.{Form, Range}
use Rattle.transfer_sets.specs.Wishes.{may_enable}
use Rattle.transfer_sets.specs.SlotState.{SlotState, IsSlotLike, new_slot, with_status, enabled_by}
use Rattle.transfer_sets.specs.SlotMoves.{SlotMove, Places, FollowsMoves, handed_out, wishes}
use Rattle.transfer_sets.specs.SlotMoves.{owner_in, last_wish}
use Rattle.transfer_sets.specs.Banks.{OwnedSlot, free_slot, free_slots, handed_slot, slot_at}
use Rattle.transfer_sets.specs.Banks.{is_owned_by, wished_by, freed}
use Rattle.transfer_sets.proofs.Followed.{handed, begun, kept, over_others}
use Rattle.tase_views.specs.OwnTables.{OwnTable, OwnTables, table_in, domain_name}
use Rattle.tase_views.specs.Objects.{Object, object_named}
use Rattle.tase_views.specs.Moves.{closes, reads, writes, defines, deletes}
use Rattle.tase_views.specs.View.{Seen, View, own, force, held, keeps_force, moment_in}
use Rattle.tase_views.specs.Sets.{Sets, define_fault, set_behind}
use Rattle.tase_views.specs.Slots.{owns, slot_of, is_next_slot, wish_asked, taken, value_invalid}
use Rattle.tase_views.specs.Slots.{with_wish, lowest_free, sets_in, slot_moves, wish_written}
use Rattle.tase_views.specs.Slots.{wished_members, members_told, places_told, state_by, is_wished}
use Rattle.node_core.specs.Slots.SlotsKept.{IsBank, first_free, handed_by, slots_read, wish_taken}
use Rattle.node_core.specs.Slots.SlotsKept.{with_taken, slot_written, written_at, slots_written}
use Rattle.node_core.proofs.OfSlots.Kept.{is_wish_for, one_passes}
use Rattle.node_core.proofs.OfSlots.Faults.{first_error, is_own}
use Rattle.node_core.proofs.OfSlots.SetBooks.{set_shown}

-- ---- one transfer set

-- the transfer set with a number stands where its moves have brought it, over a table and the data
-- sets that there are
pub record StandsBy (table : OwnTable) (sets : Sets) (s : ℕ) (moves : List SlotMove)
    (slot : OwnedSlot) : Type 0 where
  pub owner : slot.owner ≡ owner_in moves
  pub state : IsSlotLike slot.state (state_by table sets moves)
  pub idle : slot.owner ≡ None → slot.state.wish.status ≡ false
  pub within : (ordinal : ℕ) → slot.owner ≡ Some ordinal → s < table.slots
  pub set_there : slot.state.wish.status ≡ true
      → is_some (wished_members table sets slot.state.wish) ≡ true

pub picked : (b : Bool) (table : OwnTable) (sets : Sets) (s : ℕ) (one other : OwnedSlot)
    (these those : List SlotMove) → StandsBy table sets s these one
    → StandsBy table sets s those other
    → StandsBy table sets s (if b then these else those) (if b then one else other)
picked true table sets s one other these those a c = a
picked false table sets s one other these those a c = c

free_stands : (table : OwnTable) (sets : Sets) (s : ℕ) → StandsBy table sets s [] free_slot
free_stands table sets s = record {
  owner = refl;
  state = handed (places_told table (members_told table sets [])) [] 0 new_slot refl;
  idle = λ none. refl;
  within = λ ordinal e. absurd (none-some ordinal e);
  set_there = λ on. absurd (false≢true on);
}

handed_stands : (table : OwnTable) (sets : Sets) (s ordinal : ℕ) → s < table.slots
    → StandsBy table sets s (handed_out ordinal ∷ []) (handed_slot ordinal)
handed_stands table sets s ordinal there = record {
  owner = refl;
  state = handed (places_told table (members_told table sets [])) [] ordinal new_slot refl;
  idle = λ none. refl;
  within = λ other e. there;
  set_there = λ on. absurd (false≢true on);
}

-- behind a wish it stands where the wish brings it
wish_follows : (places : Places) (moves : List SlotMove) (wish : Wish) (now : ℕ) (s : SlotState)
    → FollowsMoves places (wishes wish now ∷ moves) (wished_by wish now s)
wish_follows places moves wish now s = by wish.status refl
  where
    by : (b : Bool) → wish.status ≡ b → FollowsMoves places (wishes wish now ∷ moves)
        (if b then enabled_by wish now else record s { wish = wish; first = None; noted = [] })
    by true e =
        subst (λ (w : Wish). FollowsMoves places (wishes w now ∷ moves) (enabled_by wish now))
        (ap (λ (status : Bool). with_status status wish) (sym e))
        (begun places moves wish now (enabled_by wish now) refl)
    by false e =
        let same : wish ≡ with_status false wish =
        ap (λ (status : Bool). with_status status wish) e in
        let new : SlotState = record s { wish = wish; first = None; noted = [] } in
        subst (λ (w : Wish). FollowsMoves places (wishes w now ∷ moves) new) (sym same)
        (kept places moves wish now new same)

wish_there : (status may there : Bool) (w wish : Wish)
    → (if not status || may && there then Ok w else Err value_invalid) ≡ Ok wish
    → (w ≡ wish) × (status ≡ true → there ≡ true)
wish_there false may there w wish e =
    (let same : w ≡ wish = cc in same, λ on. absurd (false≢true on))
wish_there true true true w wish e = (let same : w ≡ wish = cc in same, λ on. refl)
wish_there true true false w wish e = absurd cc
wish_there true false there w wish e = absurd cc

-- a wish that is taken and enables a transfer set names a data set that is there
taken_there : (table : OwnTable) (sets : Sets) (asked : Result Wish WishFault) (wish : Wish)
    → taken table sets asked ≡ Ok wish → wish.status ≡ true
    → is_some (wished_members table sets wish) ≡ true
taken_there table sets (Err Form) wish e on = absurd cc
taken_there table sets (Err Range) wish e on = absurd cc
taken_there table sets (Ok w) wish e on =
    let there = wish_there w.status (may_enable w) (is_some (wished_members table sets w)) w wish e
    in
    subst (λ (x : Wish). is_some (wished_members table sets x) ≡ true) there.0
    (there.1 (ap (λ (x : Wish). x.status) there.0 ∙ on))

module _ (table : OwnTable) (sets : Sets) (s : ℕ) (moves : List SlotMove) (slot : OwnedSlot)
    (a : StandsBy table sets s moves slot) where
  -- over other data sets, where the one that it wishes stays while it is enabled
  over_sets : (other : Sets) → (slot.state.wish.status ≡ true
      → wished_members table sets slot.state.wish ≡ wished_members table other slot.state.wish)
      → StandsBy table other s moves slot
  over_sets other same = record {
    owner = a.owner;
    state = by slot.state.wish.status refl;
    idle = a.idle;
    within = a.within;
    set_there = λ on. ap (λ (found : Option (List ObjectName)). is_some found) (sym (same on))
        ∙ a.set_there on;
  }
    where
      places : Sets → Places
      places those = places_told table (members_told table those moves)

      by : (on : Bool) → slot.state.wish.status ≡ on → FollowsMoves (places other) moves slot.state
      by true on =
          subst (λ (found : Option (List ObjectName)).
          FollowsMoves (places_told table (unwrap_or found [])) moves slot.state)
          (subst (λ (w : Wish). wished_members table sets w ≡ wished_members table other w)
          a.state.wish (same on)) a.state
      by false off = over_others (places sets) (places other) moves slot.state off a.state

  -- one that nobody owns, over whatever table
  over_idle : (other : OwnTable) (those : Sets) → slot.owner ≡ None
      → StandsBy other those s moves slot
  over_idle other those none = record {
    owner = a.owner;
    state = over_others (places_told table (members_told table sets moves))
        (places_told other (members_told other those moves)) moves slot.state (a.idle none) a.state;
    idle = a.idle;
    within = λ ordinal e. absurd (none-some ordinal (sym none ∙ e));
    set_there = λ on. absurd (false≢true (sym (a.idle none) ∙ on));
  }

  -- behind a wish of its owner
  wished_stands : (ordinal now : ℕ) (asked : Result Wish WishFault) → slot.owner ≡ Some ordinal
      → StandsBy table sets s (with_wish now (taken table sets asked) moves)
      (with_taken (taken table sets asked) now slot)
  wished_stands ordinal now asked mine = by (taken table sets asked) refl
    where
      by : (r : Result Wish ℕ) → taken table sets asked ≡ r
          → StandsBy table sets s (with_wish now r moves) (with_taken r now slot)
      by (Err reason) e = a
      by (Ok wish) e =
          let follows = wish_follows
          (places_told table (members_told table sets (wishes wish now ∷ moves))) moves wish now
          slot.state in
          let same : (wished_by wish now slot.state).wish ≡ wish = follows.wish in
          record {
            owner = a.owner;
            state = follows;
            idle = λ none. absurd (none-some ordinal (sym none ∙ mine));
            within = a.within;
            set_there = λ on. subst (λ (w : Wish). is_some (wished_members table sets w) ≡ true)
                (sym same) (taken_there table sets asked wish e
                (sym (ap (λ (w : Wish). w.status) same) ∙ on));
          }

-- ---- all of them

-- over the table in force and its data sets
abbrev pub Stands : OwnTables → View → ℕ → List SlotMove → OwnedSlot → Type 0
Stands tables view s moves slot = StandsBy (held tables view) (sets_in tables view) s moves slot

pub stands_at : (tables : OwnTables) (view : View) (slots : List OwnedSlot)
    → IsBank tables view slots → (s : ℕ)
    → Stands tables view s (slot_moves tables view s) (slot_at slots s)
stands_at tables view slots b s = record {
  owner = b.owner s;
  state = b.state s;
  idle = b.idle s;
  within = b.within s;
  set_there = b.set_there s;
}

pub bank_of : (tables : OwnTables) (view : View) (slots : List OwnedSlot)
    → length slots ≡ SLOT_LIMIT
    → ((s : ℕ) → Stands tables view s (slot_moves tables view s) (slot_at slots s))
    → IsBank tables view slots
bank_of tables view slots many each = record {
  many = many;
  owner = λ s. (each s).owner;
  state = λ s. (each s).state;
  idle = λ s. (each s).idle;
  within = λ s. (each s).within;
  set_there = λ s. (each s).set_there;
}

-- each has the moves that a longer view shows, over the table and the data sets before
abbrev pub StandBehind : OwnTables → View → Seen → List OwnedSlot → Type 0
StandBehind tables view seen slots =
    (s : ℕ) → Stands tables view s (slot_moves tables (seen ∷ view) s) (slot_at slots s)

-- where the same table is in force, and the data sets that enabled ones wish stay
bank_left : (tables : OwnTables) (view : View) (seen : Seen) (slots : List OwnedSlot)
    → force (seen ∷ view) ≡ force view
    → ((s : ℕ) → (slot_at slots s).state.wish.status ≡ true
    → sets_in tables view (slot_at slots s).state.wish.set_name
    ≡ sets_in tables (seen ∷ view) (slot_at slots s).state.wish.set_name)
    → length slots ≡ SLOT_LIMIT → StandBehind tables view seen slots
    → IsBank tables (seen ∷ view) slots
bank_left tables view seen slots same left many each =
    bank_of tables (seen ∷ view) slots many
    (λ s. subst (λ (n : ℕ). StandsBy (table_in tables n) (sets_in tables (seen ∷ view)) s
    (slot_moves tables (seen ∷ view) s) (slot_at slots s)) (sym same)
    (over_sets (held tables view) (sets_in tables view) s (slot_moves tables (seen ∷ view) s)
    (slot_at slots s) (each s) (sets_in tables (seen ∷ view))
    (λ on. ap (λ (found : Option (List ObjectName)).
    if bytes_eq (slot_at slots s).state.wish.set_domain (held tables view).domain then found
    else None) (left s on))))

-- where the same table is in force, and the data sets stay
pub bank_kept : (tables : OwnTables) (view : View) (seen : Seen) (slots : List OwnedSlot)
    → force (seen ∷ view) ≡ force view
    → ((name : List ℕ) → sets_in tables (seen ∷ view) name
    ≡ (if keeps_force seen view then sets_in tables view name else None))
    → length slots ≡ SLOT_LIMIT → StandBehind tables view seen slots
    → IsBank tables (seen ∷ view) slots
bank_kept tables view seen slots same shown =
    bank_left tables view seen slots same
    (λ s on. sym (shown (slot_at slots s).state.wish.set_name
    ∙ rw (eq-eqb (force (seen ∷ view)) (force view) same) refl))

-- where none is owned
bank_idle : (tables : OwnTables) (view : View) (seen : Seen) (slots : List OwnedSlot)
    → ((s : ℕ) → (slot_at slots s).owner ≡ None) → length slots ≡ SLOT_LIMIT
    → StandBehind tables view seen slots → IsBank tables (seen ∷ view) slots
bank_idle tables view seen slots none many each =
    bank_of tables (seen ∷ view) slots many
    (λ s. over_idle (held tables view) (sets_in tables view) s (slot_moves tables (seen ∷ view) s)
    (slot_at slots s) (each s) (held tables (seen ∷ view)) (sets_in tables (seen ∷ view)) (none s))

free-at : (n s : ℕ) → slot_at (free_slots n) s ≡ free_slot
free-at zero s = refl
free-at (suc n) zero = refl
free-at (suc n) (suc s) = free-at n s

length-free : (n : ℕ) → length (free_slots n) ≡ n
length-free zero = refl
length-free (suc n) = ap suc (length-free n)

pub IsBank-new : (tables : OwnTables) → IsBank tables [] (free_slots SLOT_LIMIT)
IsBank-new tables =
    bank_of tables [] (free_slots SLOT_LIMIT) (length-free SLOT_LIMIT)
    (λ s. rw (free-at SLOT_LIMIT s) (free_stands (held tables []) (sets_in tables []) s))

module _ (tables : OwnTables) (view : View) (seen : Seen) (slots : List OwnedSlot) where
  stay_behind : ((s : ℕ) → slot_moves tables (seen ∷ view) s ≡ slot_moves tables view s)
      → IsBank tables view slots → StandBehind tables view seen slots
  stay_behind same b s =
      subst (λ (moves : List SlotMove). Stands tables view s moves (slot_at slots s)) (sym (same s))
      (stands_at tables view slots b s)

  -- a move that is nothing to transfer sets
  pub IsBank-still : force (seen ∷ view) ≡ force view
      → ((name : List ℕ) → sets_in tables (seen ∷ view) name
      ≡ (if keeps_force seen view then sets_in tables view name else None))
      → ((s : ℕ) → slot_moves tables (seen ∷ view) s ≡ slot_moves tables view s)
      → IsBank tables view slots → IsBank tables (seen ∷ view) slots
  IsBank-still same shown moves b =
      bank_kept tables view seen slots same shown b.many (stay_behind moves b)

  -- one that may bring another table into force, while none is owned
  pub IsBank-unowned : ((s : ℕ) → slot_moves tables (seen ∷ view) s ≡ slot_moves tables view s)
      → ((s : ℕ) → (slot_at slots s).owner ≡ None) → IsBank tables view slots
      → IsBank tables (seen ∷ view) slots
  IsBank-unowned moves none b =
      bank_idle tables view seen slots none b.many (stay_behind moves b)

module _ (tables : OwnTables) (view : View) (slots : List OwnedSlot)
    (b : IsBank tables view slots) where
  pub owned_alike : (ordinal s : ℕ)
      → is_owned_by ordinal (slot_at slots s) ≡ owns ordinal (slot_moves tables view s)
  owned_alike ordinal s = ap (λ (o : Option ℕ). option_eq nat_eq o (Some ordinal)) (b.owner s)

-- ---- the end of an association

pub freed-at : (ordinal : ℕ) (slots : List OwnedSlot) (s : ℕ)
    → slot_at (map (freed ordinal) slots) s ≡ freed ordinal (slot_at slots s)
freed-at ordinal slots s =
    ⊎_elim
    (λ within. get_or-map (freed ordinal) slots s free_slot free_slot within)
    (λ past. get_or_past (map (freed ordinal) slots) s free_slot
    (omega (arith, past, length-map slots (freed ordinal)))
    ∙ ap (freed ordinal) (sym (get_or_past slots s free_slot past)))
    (cases_lt s (length slots))

freed_behind : (tables : OwnTables) (view : View) (ordinal : ℕ) (slots : List OwnedSlot)
    → IsBank tables view slots
    → StandBehind tables view (own ordinal closes) (map (freed ordinal) slots)
freed_behind tables view ordinal slots b s =
    let moves = slot_moves tables view s in
    let mine = owns ordinal moves in
    subst (Stands tables view s (if mine then [] else moves)) (sym (freed-at ordinal slots s))
    (rw (owned_alike tables view slots b ordinal s)
    (picked mine (held tables view) (sets_in tables view) s free_slot (slot_at slots s) [] moves
    (free_stands (held tables view) (sets_in tables view) s) (stands_at tables view slots b s)))

pub IsBank-closes : (tables : OwnTables) (view : View) (ordinal : ℕ) (slots : List OwnedSlot)
    → (force (own ordinal closes ∷ view) ≡ force view)
    ⊎ ((s : ℕ) → (slot_at (map (freed ordinal) slots) s).owner ≡ None)
    → IsBank tables view slots
    → IsBank tables (own ordinal closes ∷ view) (map (freed ordinal) slots)
IsBank-closes tables view ordinal slots either b =
    let after = map (freed ordinal) slots in
    let many = length-map slots (freed ordinal) ∙ b.many in
    let each = freed_behind tables view ordinal slots b in
    ⊎_elim
    (λ same. bank_kept tables view (own ordinal closes) after same (λ name. refl) many each)
    (λ none. bank_idle tables view (own ordinal closes) after none many each) either

-- ---- a hand-out

found_below : (p : ℕ → Bool) (start n k : ℕ) → find p (range_with_len start n) ≡ Some k
    → k < start + n
found_below p start zero k e = absurd (none-some k e)
found_below p start (suc n) k e = by (p start) (found_below p (start + 1) n k) e
  where
    by : (b : Bool) → (find p (range_with_len (start + 1) n) ≡ Some k → k < start + 1 + n)
        → (if b then Some start else find p (range_with_len (start + 1) n)) ≡ Some k
        → k < start + suc n
    by true rest e = let same : start ≡ k = same_Some start k e in omega (arith, same)
    by false rest e = let below = rest e in omega (arith, below)

-- one that is found free is one of the first so many
pub free_below : (count : ℕ) (slots : List OwnedSlot) (k : ℕ) → first_free count slots ≡ Some k
    → k < count
free_below count slots k e =
    omega (arith, found_below (λ s. is_none (slot_at slots s).owner) 0 count k e)

-- the transfer set with a number behind a change of one that is there, or of what nobody owns to
-- the same
slot_at-changed : (change : OwnedSlot → OwnedSlot) (slots : List OwnedSlot) (k s : ℕ)
    → (k < length slots) ⊎ (change free_slot ≡ free_slot)
    → slot_at (set slots k (change (slot_at slots k))) s
    ≡ (if k == s then change (slot_at slots s) else slot_at slots s)
slot_at-changed change slots k s either =
    ⊎_elim
    (λ (same : k ≡ s). subst (λ (n : ℕ). slot_at (set slots k (change (slot_at slots k))) n
    ≡ (if k == n then change (slot_at slots n) else slot_at slots n)) same
    (rw (eq-eqb k k refl) (⊎_elim within
    (λ none. ⊎_elim within (past none) (cases_lt k (length slots))) either)))
    (λ apart. rw (ne_eqb k s apart)
    (get_or-set_other slots k s _ free_slot (λ e. apart (sym e))))
    (cases_eq k s)
  where
    within : k < length slots
        → slot_at (set slots k (change (slot_at slots k))) k ≡ change (slot_at slots k)
    within there = get_or-set_same slots k _ free_slot there

    past : change free_slot ≡ free_slot → length slots ≤ k
        → slot_at (set slots k (change (slot_at slots k))) k ≡ change (slot_at slots k)
    past none over =
        get_or_past (set slots k (change (slot_at slots k))) k free_slot
        (omega (arith, over, length-set slots k (change (slot_at slots k))))
        ∙ sym none ∙ ap change (sym (get_or_past slots k free_slot over))

pub slot_at-set : (slots : List OwnedSlot) (k : ℕ) (new : OwnedSlot) (s : ℕ) → k < length slots
    → slot_at (set slots k new) s ≡ (if k == s then new else slot_at slots s)
slot_at-set slots k new s within = slot_at-changed (λ slot. new) slots k s (inl within)

module _ (tables : OwnTables) (view : View) (slots : List OwnedSlot)
    (b : IsBank tables view slots) where
  -- the first that is free is the first without an owner
  pub free_alike : first_free (held tables view).slots slots
      ≡ lowest_free (held tables view) (slot_moves tables view)
  free_alike =
      all_alike (range_with_len 0 (held tables view).slots)
    where
      all_alike : (xs : List ℕ) → find (λ s. is_none (slot_at slots s).owner) xs
          ≡ find (λ s. is_none (owner_in (slot_moves tables view s))) xs
      all_alike [] = refl
      all_alike (s ∷ xs) = rw (b.owner s, all_alike xs) refl

  handed_like : (ordinal : ℕ) (next : Bool) (found : Option ℕ)
      → ((k : ℕ) → found ≡ Some k → k < (held tables view).slots)
      → (held tables view).slots ≤ SLOT_LIMIT → (s : ℕ)
      → Stands tables view s (if next && option_eq nat_eq found (Some s)
      then handed_out ordinal ∷ [] else slot_moves tables view s)
      (slot_at (if next then handed_by ordinal found slots else slots) s)
  handed_like ordinal false found within few s = stands_at tables view slots b s
  handed_like ordinal true None within few s = stands_at tables view slots b s
  handed_like ordinal true (Some k) within few s =
      subst (Stands tables view s
      (if k == s then handed_out ordinal ∷ [] else slot_moves tables view s))
      (sym (slot_at-set slots k (handed_slot ordinal) s
      (omega (arith, within k refl, few, b.many)))) (by (k == s) refl)
    where
      by : (same : Bool) → (k == s) ≡ same
          → Stands tables view s
          (if same then handed_out ordinal ∷ [] else slot_moves tables view s)
          (if same then handed_slot ordinal else slot_at slots s)
      by true e =
          handed_stands (held tables view) (sets_in tables view) s ordinal
          (subst (λ (n : ℕ). n < (held tables view).slots) (eqb-true k s e) (within k refl))
      by false e = stands_at tables view slots b s

  handed_many : (ordinal : ℕ) (next : Bool) (found : Option ℕ)
      → length (if next then handed_by ordinal found slots else slots) ≡ SLOT_LIMIT
  handed_many ordinal false found = b.many
  handed_many ordinal true None = b.many
  handed_many ordinal true (Some k) = length-set slots k (handed_slot ordinal) ∙ b.many

  pub IsBank-reads : (ordinal : ℕ) (name : ObjectName) → (held tables view).slots ≤ SLOT_LIMIT
      → IsBank tables (own ordinal (reads name) ∷ view)
      (slots_read (held tables view) ordinal name slots)
  IsBank-reads ordinal name few =
      let table = held tables view in
      let next = is_next_slot (object_named table name) in
      let found = first_free table.slots slots in
      let after = slots_read table ordinal name slots in
      bank_kept tables view (own ordinal (reads name)) after refl (λ other. refl)
      (handed_many ordinal next found)
      (λ s. subst (λ (free : Option ℕ). Stands tables view s
      (if next && option_eq nat_eq free (Some s) then handed_out ordinal ∷ []
      else slot_moves tables view s) (slot_at after s)) free_alike
      (handed_like ordinal next found (λ k e. free_below table.slots slots k e) few s))

-- ---- a write

taken_alike : (table : OwnTable) (f g : Sets) → ((name : List ℕ) → f name ≡ g name)
    → (r : Result Wish WishFault) → taken table f r ≡ taken table g r
taken_alike table f g same (Err Form) = refl
taken_alike table f g same (Err Range) = refl
taken_alike table f g same (Ok wish) = rw (same wish.set_name) refl

-- who owns a transfer set
owner_is : (ordinal : ℕ) (slot : OwnedSlot) → is_owned_by ordinal slot ≡ true
    → slot.owner ≡ Some ordinal
owner_is ordinal slot e = by slot.owner e
  where
    by : (o : Option ℕ) → option_eq nat_eq o (Some ordinal) ≡ true → o ≡ Some ordinal
    by None e = absurd (false≢true e)
    by (Some n) e = ap (λ (k : ℕ). Some k) (eqb-true n ordinal e)

module _ (tables : OwnTables) (view : View) (slots : List OwnedSlot)
    (b : IsBank tables view slots) (book : Book)
    (members : (name : List ℕ) → members_in book.sets name ≡ sets_in tables view name) where
  -- a wish is taken by what is kept as by what the view shows
  pub wish_alike : (object : Option Object) (value : Datum) (s : ℕ)
      → wish_taken (held tables view) book (slot_at slots s).state.wish object value
      ≡ wish_written (held tables view) (sets_in tables view) (slot_moves tables view s) object
      value
  wish_alike object value s =
      taken_alike (held tables view) (members_in book.sets) (sets_in tables view) members
      (wish_asked (slot_at slots s).state.wish object value)
      ∙ ap (λ (w : Wish). taken (held tables view) (sets_in tables view)
      (wish_asked w object value)) (b.state s).wish

  module _ (ordinal now : ℕ) (object : Option Object) (value : Datum) where
    abbrev written : OwnedSlot → OwnedSlot
    written = slot_written (held tables view) book ordinal now object value

    -- what befell a transfer set behind the write, if its owner wrote it
    abbrev moves_by : Bool → ℕ → List SlotMove
    moves_by mine s =
        let moves = slot_moves tables view s in
        if mine then with_wish now
        (wish_written (held tables view) (sets_in tables view) moves object value) moves else moves

    one_like : (s : ℕ) (mine here : Bool) → is_owned_by ordinal (slot_at slots s) ≡ mine
        → Stands tables view s (moves_by (mine && here) s)
        (if here then (if mine then with_taken (wish_taken (held tables view) book
        (slot_at slots s).state.wish object value) now (slot_at slots s) else slot_at slots s)
        else slot_at slots s)
    one_like s true true e =
        let table = held tables view in
        let sets = sets_in tables view in
        let moves = slot_moves tables view s in
        subst (λ (asked : Result Wish ℕ). StandsBy table sets s
        (with_wish now (wish_written table sets moves object value) moves)
        (with_taken asked now (slot_at slots s))) (sym (wish_alike object value s))
        (wished_stands table sets s moves (slot_at slots s) (stands_at tables view slots b s)
        ordinal now (wish_asked (last_wish moves).0 object value)
        (owner_is ordinal (slot_at slots s) e))
    one_like s true false e = stands_at tables view slots b s
    one_like s false true e = stands_at tables view slots b s
    one_like s false false e = stands_at tables view slots b s

    written_like : (found : Option ℕ) (s : ℕ) → Stands tables view s
        (moves_by (owns ordinal (slot_moves tables view s) && option_eq nat_eq found (Some s)) s)
        (slot_at (written_at found written slots) s)
    written_like None s =
        rw (and_right (owns ordinal (slot_moves tables view s)) false refl)
        (stands_at tables view slots b s)
    written_like (Some k) s =
        subst (Stands tables view s (moves_by (owns ordinal (slot_moves tables view s) && (k == s))
        s)) (sym (slot_at-changed written slots k s (inr refl)))
        (subst (λ (own : Bool). Stands tables view s (moves_by (own && (k == s)) s)
        (if k == s then written (slot_at slots s) else slot_at slots s))
        (owned_alike tables view slots b ordinal s)
        (one_like s (is_owned_by ordinal (slot_at slots s)) (k == s) refl))

    written_many : (found : Option ℕ) → length (written_at found written slots) ≡ SLOT_LIMIT
    written_many None = b.many
    written_many (Some k) = length-set slots k (written (slot_at slots k)) ∙ b.many

  pub IsBank-writes : (ordinal now : ℕ) (name : ObjectName) (value : Datum)
      → now ≡ moment_in view → IsBank tables (own ordinal (writes name value) ∷ view)
      (slots_written (held tables view) book ordinal now name value slots)
  IsBank-writes ordinal now name value moment =
      let table = held tables view in
      let object = object_named table name in
      let after = slots_written table book ordinal now name value slots in
      bank_kept tables view (own ordinal (writes name value)) after refl (λ other. refl)
      (written_many ordinal now object value (slot_of object))
      (λ s. subst (λ (n : ℕ). Stands tables view s
      (let moves = slot_moves tables view s in
      if owns ordinal moves && option_eq nat_eq (slot_of object) (Some s)
      then with_wish n (wish_written table (sets_in tables view) moves object value) moves
      else moves) (slot_at after s)) moment
      (written_like ordinal now object value (slot_of object) s))

-- ---- definitions and deletions

wished_found : (in_domain : Bool) (found : Option (List ObjectName))
    → is_some (if in_domain then found else None) ≡ true
    → (in_domain ≡ true) × (is_some found ≡ true)
wished_found true found e = (refl, e)
wished_found false found e = absurd (false≢true e)

-- a data set that is there isn't defined anew
refused : (named there many fit : Bool) → there ≡ true
    → is_none (first_error named there many fit) ≡ false
refused false there many fit e = refl
refused true true many fit e = refl
refused true false many fit e = absurd (false≢true e)

set_stays : (table : OwnTable) (stays : List ℕ → Bool) (sets : Sets) (view : View)
    (set : ObjectName) (members : List ObjectName) (name : List ℕ) → is_some (sets name) ≡ true
    → set_behind table stays sets view (defines set members) name ≡ sets name
set_stays table stays sets view set members name there = by (bytes_eq set.item name) refl
  where
    by : (c : Bool) → bytes_eq set.item name ≡ c
        → (if c && is_none (define_fault table sets view set members) then Some members
        else sets name) ≡ sets name
    by true e =
        let here : is_some (sets set.item) ≡ true =
        ap (λ (n : List ℕ). is_some (sets n)) ((bytes_eq-Decides set.item name).0 e) ∙ there in
        let none : is_none (define_fault table sets view set members) ≡ false =
        refused (is_own table set) (is_some (sets set.item)) _ _ here in
        rw none refl
    by false e = refl

not_deleted : (named stays : Bool) (found : Option (List ObjectName)) → stays ≡ true
    → (if named && not stays then None else found) ≡ found
not_deleted true true found e = refl
not_deleted false true found e = refl
not_deleted named false found e = absurd (false≢true e)

module _ (tables : OwnTables) (view : View) (slots : List OwnedSlot) where
  -- the data set that an enabled one wishes is wished
  still_wished : IsBank tables view slots → (s : ℕ)
      → (slot_at slots s).state.wish.status ≡ true
      → is_wished (held tables view) (slot_moves tables view) (slot_at slots s).state.wish.set_name
      ≡ true
  still_wished b s on =
      let table = held tables view in
      let wish = (slot_at slots s).state.wish in
      let found = wished_found (bytes_eq wish.set_domain table.domain)
      (sets_in tables view wish.set_name) (b.set_there s on) in
      let all : is_wish_for table.domain wish.set_name wish ≡ true =
      rw (on, found.0, (bytes_eq-Decides wish.set_name wish.set_name).1 refl) refl in
      one_passes
      (λ n. is_wish_for table.domain wish.set_name (last_wish (slot_moves tables view n)).0)
      table.slots s (there (slot_at slots s).owner refl)
      (ap (is_wish_for table.domain wish.set_name) (sym (b.state s).wish) ∙ all)
    where
      there : (o : Option ℕ) → (slot_at slots s).owner ≡ o → s < (held tables view).slots
      there None e = absurd (false≢true (sym (b.idle s e) ∙ on))
      there (Some ordinal) e = b.within s ordinal e

  -- a definition
  pub IsBank-defines : (ordinal : ℕ) (set : ObjectName) (members : List ObjectName)
      → IsBank tables view slots → IsBank tables (own ordinal (defines set members) ∷ view) slots
  IsBank-defines ordinal set members b =
      let table = held tables view in
      let sets = sets_in tables view in
      bank_left tables view (own ordinal (defines set members)) slots refl
      (λ s on. (let wish = (slot_at slots s).state.wish in
      sym (set_shown tables view ordinal (defines set members) wish.set_name refl
      ∙ set_stays table (is_wished table (slot_moves tables view)) sets view set members
      wish.set_name (wished_found (bytes_eq wish.set_domain table.domain) (sets wish.set_name)
      (b.set_there s on)).1)))
      b.many (stay_behind tables view (own ordinal (defines set members)) slots (λ s. refl) b)

  -- a deletion
  pub IsBank-deletes-set : (ordinal : ℕ) (set : ObjectName) → IsBank tables view slots
      → IsBank tables (own ordinal (deletes set) ∷ view) slots
  IsBank-deletes-set ordinal set b =
      let table = held tables view in
      bank_left tables view (own ordinal (deletes set)) slots refl
      (λ s on. (let wish = (slot_at slots s).state.wish in
      sym (set_shown tables view ordinal (deletes set) wish.set_name refl
      ∙ not_deleted (same_name set (domain_name table wish.set_name))
      (is_wished table (slot_moves tables view) wish.set_name) (sets_in tables view wish.set_name)
      (still_wished b s on))))
      b.many (stay_behind tables view (own ordinal (deletes set)) slots (λ s. refl) b)
