-- What room there is for slots that watch points: each slot below a number finds it where the slots
-- that watch a point and its spare are together as many.
use Rattle.std.proofs.Common.{◌≡◌, ◌⊎◌, inl, inr, ⊎_elim, ℕ, suc, ◌+◌, ◌-◌, ◌<◌, ◌≤◌, eqb, ltb}
use Rattle.std.proofs.Common.{Bool}
use Rattle.std.proofs.Common.{true, false, ◌&&◌, ◌||◌, List, [], ◌∷◌, map, length, refl, sym, ap}
use Rattle.std.proofs.Common.{subst, arith, IsTrue, get_or, get_or-set_same}
use Rattle.std.specs.Prelude.{All, if◌then◌else◌}
use Rattle.std.specs.List.{list_any}
use Rattle.std.proofs.Math.ListN.{get_or-map}
use Rattle.std.proofs.lemmas.Bool.{cases_eq, or_parts, ne_eqb, eqb-false, eqb-true, eq-eqb}
use Rattle.std.proofs.lemmas.Bool.{false≢true, false_from_ne_true, or_left, or_right, or_cases}
use Rattle.std.proofs.lemmas.Bool.{and_from, and_parts}
use Rattle.std.proofs.lemmas.List.Elements.{All-head, All-tail, All-contains, Contains-get_or}
use Rattle.point_db.specs.WatchLists.{PointSlots, AreAscending, with_slot, is_watching, unwatched}
use Rattle.point_db.specs.WatchLists.{watched_by, cleared, point_slots, with_watch}
use Rattle.point_db.proofs.AscendingSlots.{ascending-tail, ascending-head, ascending-with_slot}
use Rattle.point_db.proofs.WatchLaws.{watches-added, watches-walked, stays-elsewhere}

-- ---- ascending slots

-- ascending slots from one number on and below another are no more than there are numbers between
ascending-between : (slots : List ℕ) (from most : ℕ) → AreAscending slots
    → All (λ s. from ≤ s) slots → All (λ s. s < most) slots → from ≤ most
    → length slots + from ≤ most
ascending-between [] from most up above below le = omega (arith, le)
ascending-between (s ∷ slots) from most up above below le =
    let first : s < most = All-head (λ x. x < most) s slots below in
    let rest = ascending-between slots (suc s) most (ascending-tail s slots up)
    (λ k d within. omega (arith, ascending-head s slots up k d within))
    (All-tail (λ x. x < most) s slots below) (omega (arith, first)) in
    omega (arith, rest, All-head (λ x. from ≤ x) s slots above)

ascending-below : (slots : List ℕ) (most : ℕ) → AreAscending slots → All (λ s. s < most) slots
    → length slots ≤ most
ascending-below slots most up below =
    let few = ascending-between slots 0 most up (λ k d within. omega arith) below (omega arith) in
    omega (arith, few)

-- with one more that isn't there they are one more, and with one that is no fewer
longer-with_slot : (slots : List ℕ) (slot : ℕ) → list_any (λ s. eqb s slot) slots ≡ false
    → length (with_slot slots slot) ≡ suc (length slots)
longer-with_slot [] slot absent = refl
longer-with_slot (s ∷ slots) slot absent =
    let parts = or_parts (eqb s slot) (list_any (λ x. eqb x slot) slots) absent in
    by (ltb slot s) (eqb slot s) (ne_eqb slot s (λ same. eqb-false s slot parts.0 (sym same)))
    (longer-with_slot slots slot parts.1)
  where
    by : (below same : Bool) → same ≡ false
        → length (with_slot slots slot) ≡ suc (length slots)
        → length (if below then slot ∷ s ∷ slots else if same then s ∷ slots
        else s ∷ with_slot slots slot) ≡ suc (suc (length slots))
    by true same apart rest = refl
    by false true apart rest = absurd (false≢true (sym apart))
    by false false apart rest = ap suc rest

no_shorter-with_slot : (slots : List ℕ) (slot : ℕ) → length slots ≤ length (with_slot slots slot)
no_shorter-with_slot [] slot = omega arith
no_shorter-with_slot (s ∷ slots) slot =
    by (ltb slot s) (eqb slot s) (no_shorter-with_slot slots slot)
  where
    by : (below same : Bool) → length slots ≤ length (with_slot slots slot)
        → suc (length slots) ≤ length (if below then slot ∷ s ∷ slots else if same then s ∷ slots
        else s ∷ with_slot slots slot)
    by true same rest = omega arith
    by false true rest = omega arith
    by false false rest = omega (arith, rest)

-- ---- a slot that is added

-- whether a slot watches a point with one more that watches one
told_either : (a b c d : Bool) → (a ≡ true → (b ≡ true) ⊎ ((c ≡ true) × (d ≡ true)))
    → ((b ≡ true) ⊎ ((c ≡ true) × (d ≡ true)) → a ≡ true) → a ≡ (b || (d && c))
told_either true b c d there back =
    sym (⊎_elim (or_left b (d && c))
    (λ both. or_right b (d && c) (and_from d c both.1 both.0)) (there refl))
told_either false b c d there back =
    sym (false_from_ne_true (b || (d && c)) (λ e. false≢true (back (⊎_elim (λ x. inl x)
    (λ x. let both = and_parts d c x in inr (both.1, both.0)) (or_cases b (d && c) e)))))

pub watching-added : (watch : List PointSlots) (place slot point other : ℕ) → place < length watch
    → is_watching other (point_slots (with_watch watch place slot) point)
    ≡ (is_watching other (point_slots watch point) || (eqb other slot && eqb place point))
watching-added watch place slot point other within =
    let law = watches-added watch place slot point other within in
    told_either (is_watching other (point_slots (with_watch watch place slot) point))
    (is_watching other (point_slots watch point)) (eqb place point) (eqb other slot)
    (λ there. ⊎_elim (λ before. inl before)
    (λ both. inr (eq-eqb place point (sym both.0), eq-eqb other slot both.1)) (law.0 there))
    (λ either. law.1 (⊎_elim (λ before. inl before)
    (λ both. inr (sym (eqb-true place point both.0), eqb-true other slot both.1)) either))

-- slots below a number stay so
pub below-added : (watch : List PointSlots) (place slot point most : ℕ) → place < length watch
    → slot < most → All (λ other. other < most) (point_slots watch point).slots
    → All (λ other. other < most) (point_slots (with_watch watch place slot) point).slots
below-added watch place slot point most within below all k d there =
    let new = with_watch watch place slot in
    let slots = (point_slots new point).slots in
    let other = get_or slots k d in
    let watches = (watches-walked new point other).1 (Contains-get_or slots k d there) in
    ⊎_elim
    (λ before. All-contains (λ s. s < most) (point_slots watch point).slots other all
    ((watches-walked watch point other).0 before))
    (λ both. rw both.1 below)
    ((watches-added watch place slot point other within).0 watches)

-- ---- room

-- a slot below a number watches the point, or finds spare, where there is room for as many
pub finds_room : (point : PointSlots) (slot most : ℕ) → AreAscending point.slots
    → All (λ other. other < most) point.slots → slot < most
    → most ≤ length point.slots + point.spare
    → IsTrue (is_watching slot point) ⊎ (1 ≤ point.spare)
finds_room point slot most up below within enough =
    by (is_watching slot point) refl
  where
    by : (there : Bool) → is_watching slot point ≡ there → (there ≡ true) ⊎ (1 ≤ point.spare)
    by true is = inl refl
    by false is =
        let fewer = ascending-below (with_slot point.slots slot) most
        (ascending-with_slot point.slots slot up)
        (below-added (point ∷ []) 0 slot 0 most (omega arith) within below) in
        inr (omega (arith, fewer, longer-with_slot point.slots slot is, enough))

kept-watched : (point : PointSlots) (slot : ℕ)
    → length point.slots + point.spare
    ≤ length (watched_by slot point).slots + (watched_by slot point).spare
kept-watched point slot = by (is_watching slot point) refl
  where
    by : (there : Bool) → is_watching slot point ≡ there
        → length point.slots + point.spare
        ≤ length (with_slot point.slots slot) + (if there then point.spare else point.spare - 1)
    by true is = omega (arith, no_shorter-with_slot point.slots slot)
    by false is = omega (arith, longer-with_slot point.slots slot is)

here_added : (watch : List PointSlots) (place slot point : ℕ) → place < length watch
    → point ≡ place
    → point_slots (with_watch watch place slot) point ≡ watched_by slot (point_slots watch point)
here_added watch place slot point within same =
    rw same
    (get_or-set_same watch place (watched_by slot (point_slots watch place)) unwatched within)

-- what room there is doesn't shrink
pub room-added : (watch : List PointSlots) (place slot point most : ℕ) → place < length watch
    → most ≤ length (point_slots watch point).slots + (point_slots watch point).spare
    → most ≤ length (point_slots (with_watch watch place slot) point).slots
    + (point_slots (with_watch watch place slot) point).spare
room-added watch place slot point most within enough = elim (cases_eq point place) [
  | inl here ↦ subst (λ (p : PointSlots). most ≤ length p.slots + p.spare)
      (sym (here_added watch place slot point within here))
      (omega (arith, kept-watched (point_slots watch point) slot, enough))
  | inr apart ↦ subst (λ (p : PointSlots). most ≤ length p.slots + p.spare)
      (sym (stays-elsewhere watch place slot point apart)) enough
]

-- behind a clear no slot watches a point, and what room they took is spare
pub point-cleared : (watch : List PointSlots) (point : ℕ)
    → point_slots (map cleared watch) point ≡ cleared (point_slots watch point)
point-cleared watch point = get_or-map cleared watch point unwatched
