-- Which slots watch a point as they begin and end to.
use Rattle.std.proofs.Common.{◌≡◌, ◌≢◌, ◌↔◌, ◌⊎◌, inl, inr, ⊎_elim, ℕ, ◌+◌, ◌-◌, ◌<◌, ◌≤◌, eqb}
use Rattle.std.proofs.Common.{Bool, true, false, IsTrue, not, ◌&&◌, ◌||◌, List, [], ◌∷◌}
use Rattle.std.proofs.Common.{length, get_or, refl, sym, ap, ◌∙◌, subst, arith, get_or-set_same}
use Rattle.std.proofs.Common.{get_or-set_other}
use Rattle.std.specs.Prelude.{if◌then◌else◌, filter, replicate, Contains}
use Rattle.std.specs.List.{list_any}
use Rattle.std.proofs.Math.ListN.{get_or-map}
use Rattle.std.proofs.lemmas.Bool.{cases_eq, cases_lt, eq-eqb, eqb-true, ne_eqb, false≢true}
use Rattle.std.proofs.lemmas.Bool.{cases_order, or_left, or_right, or_cases, and_parts}
use Rattle.std.proofs.lemmas.Bool.Decides.{nat_tests}
use Rattle.std.proofs.lemmas.List.{get_or-replicate, get_or_past, get_or_default, length-replicate}
use Rattle.std.proofs.lemmas.List.Folds.{list_any_at, Any-from_list_any}
use Rattle.point_db.specs.WatchLists.{PointSlots, with_slot, is_watching, unwatched, watched_by}
use Rattle.point_db.specs.WatchLists.{unwatched_by, point_slots, Watches, with_watch, without_slot}
use Rattle.point_db.specs.WatchLists.{HasMoreSpare, AreAscending}
use Rattle.point_db.proofs.AscendingSlots.{ascending-head, ascending-tail}
use Rattle.point_db.proofs.AscendingSlots.{below-absent, first-least}

abbrev among : List ℕ → ℕ → Bool
among slots slot = list_any (λ other. eqb other slot) slots

among-with : (slots : List ℕ) (slot other : ℕ)
    → among (with_slot slots slot) other ≡ (eqb slot other || among slots other)
among-with [] slot other = refl
among-with (first ∷ slots) slot other = grind (arith, nat_tests, among-with slots slot other)

among-without : (slots : List ℕ) (slot other : ℕ)
    → among (filter (λ s. not (eqb s slot)) slots) other
    ≡ (among slots other && not (eqb other slot))
among-without [] slot other = refl
among-without (first ∷ slots) slot other =
    grind (arith, nat_tests, among-without slots slot other)

-- what is there of a point of which the slots end
point-without : (watch : List PointSlots) (slot point : ℕ)
    → point_slots (without_slot watch slot) point ≡ unwatched_by slot (point_slots watch point)
point-without watch slot point = get_or-map (unwatched_by slot) watch point unwatched

pub watches-none : (points point slot : ℕ) → Watches (replicate points unwatched) point slot → ⊥
watches-none points point slot watches = elim (cases_lt point points) [
  | inl there ↦ false≢true (rw (get_or-replicate points point unwatched unwatched there) at watches)
  | inr past ↦ false≢true (rw (get_or_past (replicate points unwatched) point unwatched
      (omega (arith, length-replicate points unwatched, past))) at watches)
]

added-to : (point : PointSlots) (slot other : ℕ)
    → IsTrue (is_watching other (watched_by slot point))
    ↔ (IsTrue (is_watching other point) ⊎ (other ≡ slot))
added-to point slot other =
    let is = among-with point.slots slot other in (
      λ watches. ⊎_elim (λ same. inr (sym (eqb-true slot other same))) (λ before. inl before)
          (or_cases _ _ (sym is ∙ watches)),
      λ either. is ∙ ⊎_elim (λ before. or_right _ _ before)
          (λ same. or_left _ _ (eq-eqb slot other (sym same))) either,
    )

pub stays-elsewhere : (watch : List PointSlots) (place slot point : ℕ) → point ≢ place
    → point_slots (with_watch watch place slot) point ≡ point_slots watch point
stays-elsewhere watch place slot point other =
    get_or-set_other watch place point (watched_by slot (point_slots watch place)) unwatched other

added-here : (watch : List PointSlots) (place slot point : ℕ) → place < length watch
    → point ≡ place
    → point_slots (with_watch watch place slot) point ≡ watched_by slot (point_slots watch point)
added-here watch place slot point within same =
    rw same
    (get_or-set_same watch place (watched_by slot (point_slots watch place)) unwatched within)

pub watches-added : (watch : List PointSlots) (place slot point other : ℕ) → place < length watch
    → Watches (with_watch watch place slot) point other
    ↔ (Watches watch point other ⊎ ((point ≡ place) × (other ≡ slot)))
watches-added watch place slot point other within = elim (cases_eq point place) [
  | inl here ↦
      let is = added-here watch place slot point within here in
      let added = added-to (point_slots watch point) slot other in (
        λ watches. ⊎_elim (λ before. inl before) (λ same. inr (here, same))
            (added.0 (subst (λ p. IsTrue (is_watching other p)) is watches)),
        λ either. subst (λ p. IsTrue (is_watching other p)) (sym is)
            (added.1 (⊎_elim (λ before. inl before) (λ both. inr both.1) either)),
      )
  | inr apart ↦
      let is = stays-elsewhere watch place slot point apart in (
        λ watches. inl (subst (λ p. IsTrue (is_watching other p)) is watches),
        λ either. subst (λ p. IsTrue (is_watching other p)) (sym is)
            (⊎_elim (λ before. before) (λ both. absurd (apart both.0)) either),
      )
]

pub spare-added : (watch : List PointSlots) (place slot point : ℕ) → place < length watch
    → (point_slots watch point).spare ≤ (point_slots (with_watch watch place slot) point).spare + 1
spare-added watch place slot point within = elim (cases_eq point place) [
  | inl here ↦ rw (added-here watch place slot point within here) (by (is_watching slot was))
  | inr apart ↦ rw (stays-elsewhere watch place slot point apart) (omega arith)
]
  where
    was : PointSlots
    was = point_slots watch point

    by : (c : Bool) → was.spare ≤ (if c then was.spare else was.spare - 1) + 1
    by true = omega arith
    by false = omega arith

-- a slot that watches a point takes none of the spare there
pub spare-again : (watch : List PointSlots) (place slot point : ℕ) → place < length watch
    → Watches watch place slot
    → (point_slots (with_watch watch place slot) point).spare ≡ (point_slots watch point).spare
spare-again watch place slot point within there = elim (cases_eq point place) [
  | inl here ↦ rw (added-here watch place slot point within here, here, there) refl
  | inr apart ↦ rw (stays-elsewhere watch place slot point apart) refl
]

pub watches-removed : (watch : List PointSlots) (slot point other : ℕ)
    → Watches (without_slot watch slot) point other ↔ (Watches watch point other × (other ≢ slot))
watches-removed watch slot point other =
    let at_point = point-without watch slot point in
    let is = among-without (point_slots watch point).slots slot other in (
      λ watches.
          let parts = and_parts _ _
          (sym is ∙ subst (λ p. IsTrue (is_watching other p)) at_point watches) in
          (parts.0, λ same. false≢true (rw (eq-eqb other slot same) at parts.1)),
      λ both. subst (λ p. IsTrue (is_watching other p)) (sym at_point)
          (is ∙ rw (both.0, ne_eqb other slot both.1) refl),
    )

pub spare-removed : (watch : List PointSlots) (slot point : ℕ)
    → (point_slots (without_slot watch slot) point).spare ≡ (point_slots watch point).spare
spare-removed watch slot point =
    ap (λ (p : PointSlots). p.spare) (point-without watch slot point)

pub slots-kept : (old new : List PointSlots) (point : ℕ) → HasMoreSpare old new
    → (point_slots new point).slots ≡ (point_slots old point).slots
slots-kept old new point more =
    let slots : PointSlots → List ℕ = λ p. p.slots in
    sym (get_or-map slots new point unwatched) ∙ ap (λ lists. get_or lists point []) more.slots
    ∙ get_or-map slots old point unwatched

contains-among : (slots : List ℕ) (slot : ℕ) → IsTrue (among slots slot) ↔ Contains slots slot
contains-among slots slot = (
  λ there.
      let found = Any-from_list_any (λ s. eqb s slot) slots there in
      let same = eqb-true found.1 slot found.4 in
      (found.0, found.2, get_or_default slots found.0 slot found.1 found.2 ∙ found.3 ∙ same),
  λ has. list_any_at (λ s. eqb s slot) slots has.0 slot has.1 (eq-eqb _ _ has.2),
)

pub watches-walked : (watch : List PointSlots) (point slot : ℕ)
    → Watches watch point slot ↔ Contains (point_slots watch point).slots slot
watches-walked watch point slot = contains-among (point_slots watch point).slots slot

among-first : (x : ℕ) (xs : List ℕ) → among (x ∷ xs) x ≡ true
among-first x xs = or_left _ _ (eq-eqb x x refl)

among-same : (xs ys : List ℕ) → AreAscending xs → AreAscending ys
    → ((s : ℕ) → among xs s ≡ among ys s) → xs ≡ ys
among-same [] [] up rises same = refl
among-same [] (y ∷ ys) up rises same = absurd (false≢true (same y ∙ among-first y ys))
among-same (x ∷ xs) [] up rises same = absurd (false≢true (sym (same x) ∙ among-first x xs))
among-same (x ∷ xs) (y ∷ ys) up rises same = elim (cases_order x y) [
  | inl here ↦ rw here (ap (λ zs. y ∷ zs) (among-same xs ys (ascending-tail x xs up)
      (ascending-tail y ys rises) (rest here)))
  | inr (inl below) ↦ absurd (false≢true
      (sym (first-least x y ys rises below) ∙ sym (same x) ∙ among-first x xs))
  | inr (inr above) ↦ absurd (false≢true
      (sym (first-least y x xs up above) ∙ same y ∙ among-first y ys))
]
  where
    rest : x ≡ y → (s : ℕ) → among xs s ≡ among ys s
    rest here s = elim (cases_eq s x) [
      | inl first ↦ rw first (below-absent x xs (ascending-head x xs up)
          ∙ sym (rw here (below-absent y ys (ascending-head y ys rises))))
      | inr other ↦ rw (ne_eqb x s (λ e. other (sym e)), ne_eqb y s (λ e. other (sym (here ∙ e))))
          at (same s)
    ]

-- ascending slots are told by which they are
pub ascending-same : (xs ys : List ℕ) → AreAscending xs → AreAscending ys
    → ((s : ℕ) → Contains xs s ↔ Contains ys s) → xs ≡ ys
ascending-same xs ys up rises same = among-same xs ys up rises (λ s. by (among xs s) (among ys s)
    (λ there. (contains-among ys s).1 ((same s).0 ((contains-among xs s).0 there)))
    (λ there. (contains-among xs s).1 ((same s).1 ((contains-among ys s).0 there))))
  where
    by : (a b : Bool) → (IsTrue a → IsTrue b) → (IsTrue b → IsTrue a) → a ≡ b
    by true b there back = sym (there refl)
    by false true there back = back refl
    by false false there back = refl
