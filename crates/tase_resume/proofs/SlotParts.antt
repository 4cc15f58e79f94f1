-- Transfer sets that are alike but for ordinals and counts have the same owner, wish and state.
use Rattle.std.proofs.Common.{◌≡◌, ◌==◌, ℕ, ◌+◌, Bool, true, false, not, if◌then◌else◌, List, []}
use Rattle.std.proofs.Common.{◌∷◌, ◌++◌, map, reverse, length, Option, Some, None, refl, sym, ap}
use Rattle.std.proofs.Common.{◌∙◌, inl, inr, subst, ◌&&◌, arith}
use Rattle.std.specs.Prelude.{nat_eq, is_none, option_map, flat_map, filter, bytes_eq, find}
use Rattle.std.specs.List.{list_any, range_with_len}
use Rattle.std.specs.Option.{option_eq}
use Rattle.std.proofs.lemmas.List.{reverse-append, length-append, length-map}
use Rattle.mms_data.specs.ObjectName.{ObjectName}
use mathlib.Core.Path.{fun_ext}
use Rattle.transfer_sets.specs.declared.wish.Wish.{Wish}
use Rattle.transfer_sets.specs.Wishes.{base_of}
use Rattle.transfer_sets.specs.SlotState.{SlotState, noted_at}
use Rattle.transfer_sets.specs.SlotMoves.{PointChange, SlotMove, handed_out, wishes, changes}
use Rattle.transfer_sets.specs.SlotMoves.{reports, owner_in, last_wish, untold, first_moment}
use Rattle.transfer_sets.specs.SlotMoves.{Places, noted_by, slot_in}
use Rattle.transfer_sets.specs.Due.{conditions_due}
use Rattle.tase_views.specs.OwnTables.{OwnTable}
use Rattle.tase_views.specs.Sets.{Sets}
use Rattle.tase_views.specs.Slots.{Slots, owns, lowest_free, is_wished, members_told, places_told}
use Rattle.tase_views.specs.Slots.{state_by, makes_report, asked_conditions}
use Rattle.tase_resume.specs.Recounted.{Gap}
use Rattle.tase_resume.proofs.RaisedHolds.{same_sum}
use Rattle.tase_resume.proofs.Like.{raised_slot, recounted_change, IsFree, AreSlotsAlike}

owner_raised : (off : ℕ) (gap : Gap) (moves : List SlotMove)
    → owner_in (map (raised_slot off gap) moves) ≡ option_map (λ n. n + off) (owner_in moves)
owner_raised off gap [] = refl
owner_raised off gap (handed_out ordinal ∷ moves) = refl
owner_raised off gap (wishes wish now ∷ moves) = owner_raised off gap moves
owner_raised off gap (changes change ∷ moves) = owner_raised off gap moves
owner_raised off gap (reports ∷ moves) = owner_raised off gap moves

pub wish_raised : (off : ℕ) (gap : Gap) (moves : List SlotMove)
    → last_wish (map (raised_slot off gap) moves) ≡ last_wish moves
wish_raised off gap [] = refl
wish_raised off gap (handed_out ordinal ∷ moves) = refl
wish_raised off gap (wishes wish now ∷ moves) = refl
wish_raised off gap (changes change ∷ moves) = wish_raised off gap moves
wish_raised off gap (reports ∷ moves) = wish_raised off gap moves

owned_by : (off n : ℕ) (owner : Option ℕ)
    → option_eq nat_eq (option_map (λ k. k + off) owner) (Some (n + off))
    ≡ option_eq nat_eq owner (Some n)
owned_by off n None = refl
owned_by off n (Some k) = same_sum k n off

none_owned : (off : ℕ) (owner : Option ℕ)
    → is_none (option_map (λ (k : ℕ). k + off) owner) ≡ is_none owner
none_owned off None = refl
none_owned off (Some k) = refl

pub free_unowned : (moves : List SlotMove) (n : ℕ) → IsFree moves → owns n moves ≡ false
free_unowned moves n free = ap (λ (o : Option ℕ). option_eq nat_eq o (Some n)) free.0

module _ (off : ℕ) (gap : Gap) (one other : List SlotMove) where
  pub owns_alike : AreSlotsAlike off gap one other → (n : ℕ)
      → owns (n + off) one ≡ owns n other
  owns_alike (inl free) n = free_unowned one (n + off) free.0 ∙ sym (free_unowned other n free.1)
  owns_alike (inr same) n =
      ap (λ (moves : List SlotMove). owns (n + off) moves) same
      ∙ ap (λ (o : Option ℕ). option_eq nat_eq o (Some (n + off))) (owner_raised off gap other)
      ∙ owned_by off n (owner_in other)

  pub unowned_alike : AreSlotsAlike off gap one other
      → is_none (owner_in one) ≡ is_none (owner_in other)
  unowned_alike (inl free) =
      ap (λ (o : Option ℕ). is_none o) free.0.0 ∙ sym (ap (λ (o : Option ℕ). is_none o) free.1.0)
  unowned_alike (inr same) =
      ap (λ (moves : List SlotMove). is_none (owner_in moves)) same
      ∙ ap (λ (o : Option ℕ). is_none o) (owner_raised off gap other)
      ∙ none_owned off (owner_in other)

  pub wish_alike : AreSlotsAlike off gap one other → last_wish one ≡ last_wish other
  wish_alike (inl free) = free.0.1 ∙ sym free.1.1
  wish_alike (inr same) = ap last_wish same ∙ wish_raised off gap other

module _ (off : ℕ) (gap : Gap) (table : OwnTable) (one other : Slots)
    (alike : (s : ℕ) → AreSlotsAlike off gap (one s) (other s)) where
  pub lowest_alike : lowest_free table one ≡ lowest_free table other
  lowest_alike =
      ap (λ (test : ℕ → Bool). find test (range_with_len 0 table.slots))
      (fun_ext (λ s. unowned_alike off gap (one s) (other s) (alike s)))

  pub wished_alike : (name : List ℕ)
      → is_wished table one name ≡ is_wished table other name
  wished_alike name =
      ap (λ (test : ℕ → Bool). list_any test (range_with_len 0 table.slots))
      (fun_ext (λ s. ap (λ (w : Wish × ℕ).
      w.0.status && bytes_eq w.0.set_domain table.domain && bytes_eq w.0.set_name name)
      (wish_alike off gap (one s) (other s) (alike s))))

-- a transfer set as its due conditions see it

pub record IsStateAlike (s other : SlotState) : Type 0 where
  pub wish : s.wish ≡ other.wish
  pub base : s.base ≡ other.base
  pub first : s.first ≡ other.first
  pub count : length s.noted ≡ length other.noted

pub due_alike : (s other : SlotState) (from to : ℕ) → IsStateAlike s other
    → conditions_due s from to ≡ conditions_due other from to
due_alike s other from to alike =
    rw (alike.wish, alike.base, alike.first, alike.count) refl

pub makes_alike : (s other : SlotState) (conditions : ℕ) → IsStateAlike s other
    → makes_report s conditions ≡ makes_report other conditions
makes_alike s other conditions alike = rw (alike.wish, alike.first) refl

pub asked_alike : (s other : SlotState) → IsStateAlike s other
    → asked_conditions s ≡ asked_conditions other
asked_alike s other alike = rw alike.wish refl

untold_raised : (off : ℕ) (gap : Gap) (moves : List SlotMove)
    → untold (map (raised_slot off gap) moves) ≡ map (recounted_change gap) (untold moves)
untold_raised off gap [] = refl
untold_raised off gap (handed_out ordinal ∷ moves) = refl
untold_raised off gap (wishes wish now ∷ moves) = refl
untold_raised off gap (changes change ∷ moves) =
    ap (λ (l : List PointChange). recounted_change gap change ∷ l) (untold_raised off gap moves)
untold_raised off gap (reports ∷ moves) = refl

-- whether a change is one of a member
abbrev pub is_members : Places → PointChange → Bool
is_members places change = not (length (places change.point) == 0)

filter_recounted : (gap : Gap) (places : Places) (all : List PointChange)
    → filter (is_members places) (map (recounted_change gap) all)
    ≡ map (recounted_change gap) (filter (is_members places) all)
filter_recounted gap places [] = refl
filter_recounted gap places (change ∷ all) =
    by (is_members places change) (filter_recounted gap places all)
  where
    by : (b : Bool)
        → filter (is_members places) (map (recounted_change gap) all)
        ≡ map (recounted_change gap) (filter (is_members places) all)
        → (if b then recounted_change gap change
        ∷ filter (is_members places) (map (recounted_change gap) all)
        else filter (is_members places) (map (recounted_change gap) all))
        ≡ map (recounted_change gap)
        (if b then change ∷ filter (is_members places) all else filter (is_members places) all)
    by true rest = ap (λ (l : List PointChange). recounted_change gap change ∷ l) rest
    by false rest = rest

first_recounted : (gap : Gap) (all : List PointChange)
    → first_moment (map (recounted_change gap) all) ≡ first_moment all
first_recounted gap [] = refl
first_recounted gap (change ∷ all) = ap (noted_at change.moment) (first_recounted gap all)

-- the changes of members that no report has told, the newest first
abbrev pub member_changes : Places → List SlotMove → List PointChange
member_changes places moves = filter (is_members places) (untold moves)

pub member_changes_raised : (off : ℕ) (gap : Gap) (places : Places) (moves : List SlotMove)
    → member_changes places (map (raised_slot off gap) moves)
    ≡ map (recounted_change gap) (member_changes places moves)
member_changes_raised off gap places moves =
    ap (filter (is_members places)) (untold_raised off gap moves)
    ∙ filter_recounted gap places (untold moves)

reverse_map : (f : PointChange → PointChange) (all : List PointChange)
    → reverse (map f all) ≡ map f (reverse all)
reverse_map f [] = refl
reverse_map f (change ∷ all) =
    reverse-append (f change ∷ []) (map f all)
    ∙ ap (λ (l : List PointChange). l ++ f change ∷ []) (reverse_map f all)
    ∙ sym (append_map (reverse all) (change ∷ []))
    ∙ sym (ap (map f) (reverse-append (change ∷ []) all))
  where
    append_map : (xs ys : List PointChange) → map f (xs ++ ys) ≡ map f xs ++ map f ys
    append_map [] ys = refl
    append_map (x ∷ xs) ys = ap (λ (l : List PointChange). f x ∷ l) (append_map xs ys)

pub reversed_recounted : (gap : Gap) (all : List PointChange)
    → reverse (map (recounted_change gap) all) ≡ map (recounted_change gap) (reverse all)
reversed_recounted gap all = reverse_map (recounted_change gap) all

noted_long : (gap : Gap) (places : Places) (all : List PointChange)
    → length (flat_map (noted_by places) (map (recounted_change gap) all))
    ≡ length (flat_map (noted_by places) all)
noted_long gap places [] = refl
noted_long gap places (change ∷ all) =
    length-append (noted_by places (recounted_change gap change))
    (flat_map (noted_by places) (map (recounted_change gap) all))
    ∙ sums (length-map (places change.point) _) (noted_long gap places all)
    (length-map (places change.point) _)
    ∙ sym (length-append (noted_by places change) (flat_map (noted_by places) all))
  where
    sums : {a b c d e : ℕ} → a ≡ e → b ≡ c → d ≡ e → a + b ≡ d + c
    sums p q r = omega (arith, p, q, r)

pub state_raised : (off : ℕ) (gap : Gap) (places : Places) (moves : List SlotMove)
    → IsStateAlike (slot_in places (map (raised_slot off gap) moves)) (slot_in places moves)
state_raised off gap places moves =
    let last = wish_raised off gap moves in
    let all = member_changes_raised off gap places moves in
    record {
      wish = ap (λ (l : Wish × ℕ). l.0) last;
      base = ap (λ (l : Wish × ℕ). base_of l.0 l.1) last;
      first = ap first_moment all ∙ first_recounted gap (member_changes places moves);
      count = ap (λ (l : List PointChange). length (flat_map (noted_by places) (reverse l))) all
          ∙ ap (λ (l : List PointChange). length (flat_map (noted_by places) l))
          (reversed_recounted gap (member_changes places moves))
          ∙ noted_long gap places (reverse (member_changes places moves));
    }

-- the data set that it wishes is the same
pub told_alike : (table : OwnTable) (sets others : Sets) (one other : List SlotMove)
    → ((name : List ℕ) → sets name ≡ others name) → last_wish one ≡ last_wish other
    → members_told table sets one ≡ members_told table others other
told_alike table sets others one other same last = rw (last, fun_ext same) refl

pub state_alike : (off : ℕ) (gap : Gap) (table : OwnTable) (sets others : Sets)
    (one other : List SlotMove) → ((name : List ℕ) → sets name ≡ others name)
    → one ≡ map (raised_slot off gap) other
    → IsStateAlike (state_by table sets one) (state_by table others other)
state_alike off gap table sets others one other same is =
    let told = told_alike table sets others one other same
    (ap last_wish is ∙ wish_raised off gap other) in
    subst (λ (s : SlotState). IsStateAlike s (state_by table others other))
    (sym (ap (λ (moves : List SlotMove).
    slot_in (places_told table (members_told table sets one)) moves) is
    ∙ ap (λ (members : List ObjectName).
    slot_in (places_told table members) (map (raised_slot off gap) other)) told))
    (state_raised off gap (places_told table (members_told table others other)) other)
