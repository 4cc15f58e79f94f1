-- What a transfer set notes, as members with the changes that they note.
use Rattle.std.proofs.Common.{◌≡◌, ℕ, suc, ◌+◌, Bool, true, false, if◌then◌else◌, List, [], ◌∷◌}
use Rattle.std.proofs.Common.{◌++◌, map, reverse, Some, refl, sym, ap, ◌∙◌, arith}
use Rattle.std.specs.Prelude.{flat_map, slice_get, All}
use Rattle.std.proofs.lemmas.List.{map-append}
use Rattle.std.proofs.lemmas.List.Elements.{All-cons, All-append}
use Rattle.mms_data.specs.ObjectName.{ObjectName}
use Rattle.transfer_sets.specs.declared.noted.Noted.{Noted}
use Rattle.transfer_sets.specs.SlotMoves.{PointChange, SlotMove, Places, noted_by, slot_in}
use Rattle.tase_views.specs.OwnTables.{OwnTable}
use Rattle.tase_views.specs.Objects.{object_named}
use Rattle.tase_views.specs.Slots.{is_point, places_from, places_told}
use Rattle.tase_resume.specs.Recounted.{Gap}
use Rattle.tase_resume.proofs.Like.{recounted_change, raised_slot}
use Rattle.tase_resume.proofs.SlotParts.{member_changes, member_changes_raised, reversed_recounted}

pub record NotedPair : Type 0 where
  pub member : ℕ
  pub change : PointChange

abbrev pub pair_of : PointChange → ℕ → NotedPair
pair_of change member = record { member = member; change = change }

abbrev pub note_of : NotedPair → Noted
note_of pair =
    record { member = pair.member; value = pair.change.value; cov = pair.change.count }

-- the same with more changes of the point
abbrev pub more_note : Gap → NotedPair → Noted
more_note gap pair = note_of (pair_of (recounted_change gap pair.change) pair.member)

abbrev pub pairs_of : Places → List PointChange → List NotedPair
pairs_of places changes = flat_map (λ c. map (pair_of c) (places c.point)) changes

notes_by : (change : PointChange) (members : List ℕ)
    → map (λ member. let n : Noted = record {
      member = member;
      value = change.value;
      cov = change.count;
    } in n) members
    ≡ map note_of (map (pair_of change) members)
notes_by change [] = refl
notes_by change (m ∷ members) =
    ap (λ (l : List Noted). note_of (pair_of change m) ∷ l) (notes_by change members)

more_by : (gap : Gap) (change : PointChange) (members : List ℕ)
    → map (λ member. let n : Noted = record {
      member = member;
      value = change.value;
      cov = (recounted_change gap change).count;
    } in n) members
    ≡ map (more_note gap) (map (pair_of change) members)
more_by gap change [] = refl
more_by gap change (m ∷ members) =
    ap (λ (l : List Noted). more_note gap (pair_of change m) ∷ l) (more_by gap change members)

pub noted_are : (places : Places) (all : List PointChange)
    → flat_map (noted_by places) all ≡ map note_of (pairs_of places all)
noted_are places [] = refl
noted_are places (change ∷ all) =
    ap (λ (l : List Noted). l ++ flat_map (noted_by places) all)
    (notes_by change (places change.point))
    ∙ ap (λ (l : List Noted). map note_of (map (pair_of change) (places change.point)) ++ l)
    (noted_are places all)
    ∙ sym (map-append note_of (map (pair_of change) (places change.point)) (pairs_of places all))

more_are : (gap : Gap) (places : Places) (all : List PointChange)
    → flat_map (noted_by places) (map (recounted_change gap) all)
    ≡ map (more_note gap) (pairs_of places all)
more_are gap places [] = refl
more_are gap places (change ∷ all) =
    ap (λ (l : List Noted). l ++ flat_map (noted_by places) (map (recounted_change gap) all))
    (more_by gap change (places change.point))
    ∙ ap (λ (l : List Noted). map (more_note gap) (map (pair_of change) (places change.point)) ++ l)
    (more_are gap places all)
    ∙ sym (map-append (more_note gap) (map (pair_of change) (places change.point))
    (pairs_of places all))

-- the pairs of a transfer set's moves
abbrev pub slot_pairs : Places → List SlotMove → List NotedPair
slot_pairs places moves = pairs_of places (reverse (member_changes places moves))

pub slot_noted : (places : Places) (moves : List SlotMove)
    → (slot_in places moves).noted ≡ map note_of (slot_pairs places moves)
slot_noted places moves = noted_are places (reverse (member_changes places moves))

pub slot_more : (off : ℕ) (gap : Gap) (places : Places) (moves : List SlotMove)
    → (slot_in places (map (raised_slot off gap) moves)).noted
    ≡ map (more_note gap) (slot_pairs places moves)
slot_more off gap places moves =
    ap (λ (l : List PointChange). flat_map (noted_by places) (reverse l))
    (member_changes_raised off gap places moves)
    ∙ ap (λ (l : List PointChange). flat_map (noted_by places) l)
    (reversed_recounted gap (member_changes places moves))
    ∙ more_are gap places (reverse (member_changes places moves))

-- the members are of the same numbers
pub members_same : (gap : Gap) (pairs : List NotedPair)
    → map (λ (n : Noted). n.member) (map (more_note gap) pairs)
    ≡ map (λ (n : Noted). n.member) (map note_of pairs)
members_same gap [] = refl
members_same gap (pair ∷ pairs) =
    ap (λ (l : List ℕ). pair.member ∷ l) (members_same gap pairs)

-- a member of a pair names the point that changed
abbrev pub FitsIn : OwnTable → List ObjectName → NotedPair → Type 0
FitsIn table members pair =
    (name : ObjectName) × (slice_get members pair.member ≡ Some name)
    × (is_point pair.change.point (object_named table name) ≡ true)

places_fit : (table : OwnTable) (all : List ObjectName) (change : PointChange) (place : ℕ)
    (rest : List ObjectName)
    → ((k : ℕ) → slice_get all (place + k) ≡ slice_get rest k)
    → All (FitsIn table all)
    (map (pair_of change)
    (places_from place (λ member. is_point change.point (object_named table member)) rest))
places_fit table all change place [] is = λ k d within. absurd (omega (arith, within))
places_fit table all change place (member ∷ rest) is =
    by (is_point change.point (object_named table member)) refl
    (places_fit table all change (place + 1) rest
    (λ k. let same : place + 1 + k ≡ place + suc k = omega arith in
    ap (slice_get all) same ∙ is (suc k)))
  where
    here : slice_get all place ≡ Some member
    here = let same : place ≡ place + 0 = omega arith in ap (slice_get all) same ∙ is 0

    by : (b : Bool) → is_point change.point (object_named table member) ≡ b
        → All (FitsIn table all)
        (map (pair_of change)
        (places_from (place + 1) (λ m. is_point change.point (object_named table m)) rest))
        → All (FitsIn table all)
        (map (pair_of change)
        (if b
        then place ∷ places_from (place + 1)
        (λ m. is_point change.point (object_named table m)) rest
        else places_from (place + 1) (λ m. is_point change.point (object_named table m)) rest))
    by true e others =
        All-cons (FitsIn table all) (pair_of change place) _ (member, here, e) others
    by false e others = others

pub pairs_fit : (table : OwnTable) (members : List ObjectName) (changes : List PointChange)
    → All (FitsIn table members) (pairs_of (places_told table members) changes)
pairs_fit table members [] = λ k d within. absurd (omega (arith, within))
pairs_fit table members (change ∷ changes) =
    All-append (FitsIn table members)
    (map (pair_of change) (places_told table members change.point))
    (pairs_of (places_told table members) changes)
    (places_fit table members change 0 members
    (λ k. let same : 0 + k ≡ k = omega arith in ap (slice_get members) same))
    (pairs_fit table members changes)
