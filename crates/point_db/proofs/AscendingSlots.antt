-- Ascending slots, and one more at its place.
use Rattle.std.proofs.Common.{◌≡◌, inl, inr, ℕ, zero, suc, ◌<◌, ◌≤◌, eqb, ltb, Bool, true}
use Rattle.std.proofs.Common.{false}
use Rattle.std.proofs.Common.{List, [], ◌∷◌, length, get_or, Ok, Err, refl, sym, ◌∙◌, subst, arith}
use Rattle.std.specs.Prelude.{All, if◌then◌else◌}
use Rattle.std.specs.List.{list_any, insert}
use Rattle.std.specs.List.Sorted.{IsBinarySearchResult}
use Rattle.std.specs.Ordering.{nat_cmp}
use Rattle.std.proofs.lemmas.Bool.{cases_lt, cases_order, true≢false, ne_eqb, eq-eqb}
use Rattle.std.proofs.lemmas.Bool.{ltb-true}
use Rattle.std.proofs.lemmas.Bool.Decides.{nat_tests}
use Rattle.std.proofs.lemmas.List.{get_or_default}
use Rattle.std.proofs.lemmas.List.Elements.{All-nil, All-cons, All-head, All-tail}
use Rattle.std.proofs.lemmas.List.Folds.{list_any_none, list_any_at}
use Rattle.std.proofs.lemmas.List.Kept.{AllPairs-cons}
use Rattle.std.proofs.lemmas.List.Sorted.{searched}
use Rattle.point_db.specs.WatchLists.{AreAscending, with_slot}

-- a place that a slot is above all before, and below all from there on
abbrev pub IsGap : List ℕ → ℕ → ℕ → Type 0
IsGap xs x i = (i ≤ length xs) × ((k : ℕ) → k < i → get_or xs k 0 < x)
    × ((k : ℕ) → i ≤ k → k < length xs → x < get_or xs k 0)

pub ascending-tail : (x : ℕ) (xs : List ℕ) → AreAscending (x ∷ xs) → AreAscending xs
ascending-tail x xs up i j d before within = up (suc i) (suc j) d (omega arith) (omega arith)

pub ascending-head : (x : ℕ) (xs : List ℕ) → AreAscending (x ∷ xs) → All (λ y. x < y) xs
ascending-head x xs up k d within = up zero (suc k) d (omega arith) (omega arith)

rising : (xs : List ℕ) → AreAscending xs → (a b : ℕ) → a ≤ b → b < length xs
    → get_or xs a 0 ≤ get_or xs b 0
rising xs up a b before within = elim (cases_order a b) [
  | inl same ↦ rw same (omega arith)
  | inr (inl below) ↦ omega (arith, up a b 0 below within)
  | inr (inr above) ↦ absurd (omega arith)
]

-- a search that finds nothing ends at such a place
pub gap-searched : (xs ys : List ℕ) (x i : ℕ) → ys ≡ xs → AreAscending xs
    → IsBinarySearchResult (λ y. nat_cmp y x) ys (Err i) → IsGap xs x i
gap-searched xs ys x i same up found =
    searched xs x (Err i)
    (subst (λ zs. IsBinarySearchResult (λ y. nat_cmp y x) zs (Err i)) same found) (rising xs up)

-- one that ends at a place finds the slot there
pub there-searched : (xs ys : List ℕ) (x i : ℕ) → ys ≡ xs → AreAscending xs
    → IsBinarySearchResult (λ y. nat_cmp y x) ys (Ok i) → list_any (λ y. eqb y x) xs ≡ true
there-searched xs ys x i same up found =
    let there = searched xs x (Ok i)
    (subst (λ zs. IsBinarySearchResult (λ y. nat_cmp y x) zs (Ok i)) same found) (rising xs up) in
    list_any_at (λ y. eqb y x) xs i 0 there.0 (eq-eqb (get_or xs i 0) x there.1)

-- the slot isn't there
pub gap-absent : (xs : List ℕ) (x i : ℕ) → IsGap xs x i → list_any (λ y. eqb y x) xs ≡ false
gap-absent xs x i gap = list_any_none (λ y. eqb y x) xs other
  where
    other : All (λ y. eqb y x ≡ false) xs
    other k d within = elim (cases_lt k i) [
      | inl before ↦ ne_eqb _ _ (λ same.
          omega (arith, same, gap.1 k before, get_or_default xs k d 0 within))
      | inr from ↦ ne_eqb _ _ (λ same.
          omega (arith, same, gap.2 k from within, get_or_default xs k d 0 within))
    ]

-- it goes to that place
pub gap-with_slot : (xs : List ℕ) (x i : ℕ) → IsGap xs x i → with_slot xs x ≡ insert xs i x
gap-with_slot [] x zero gap = refl
gap-with_slot [] x (suc i) gap = absurd (omega (arith, gap.0))
gap-with_slot (y ∷ ys) x zero gap = grind (arith, nat_tests, gap.2 0 (omega arith) (omega arith))
gap-with_slot (y ∷ ys) x (suc i) gap =
    let rest : IsGap ys x i = (
      omega (arith, gap.0),
      (λ k before. gap.1 (suc k) (omega arith)),
      λ k from within. gap.2 (suc k) (omega arith) (omega arith),
    ) in
    grind (arith, nat_tests, gap.1 0 (omega arith), gap-with_slot ys x i rest)

pub below-absent : (x : ℕ) (xs : List ℕ) → All (λ y. x < y) xs
    → list_any (λ y. eqb y x) xs ≡ false
below-absent x xs below =
    list_any_none (λ y. eqb y x) xs
    (λ k d within. ne_eqb _ _ (λ same. omega (arith, same, below k d within)))

-- a slot that is below the first isn't there
pub first-least : (x y : ℕ) (ys : List ℕ) → AreAscending (y ∷ ys) → x < y
    → list_any (λ z. eqb z x) (y ∷ ys) ≡ false
first-least x y ys up below =
    below-absent x (y ∷ ys) (All-cons (λ z. x < z) y ys below
    (λ k d within. omega (arith, below, ascending-head y ys up k d within)))

-- a slot that is there goes nowhere
pub there-with_slot : (xs : List ℕ) (x : ℕ) → AreAscending xs → list_any (λ y. eqb y x) xs ≡ true
    → with_slot xs x ≡ xs
there-with_slot [] x up there = absurd (true≢false (sym there))
there-with_slot (y ∷ ys) x up there = elim (cases_order x y) [
  | inl same ↦ grind (arith, nat_tests)
  | inr (inl below) ↦ absurd (true≢false (sym there ∙ first-least x y ys up below))
  | inr (inr above) ↦ grind (arith, nat_tests, there-with_slot ys x (ascending-tail y ys up))
]

All-with_slot : (P : ℕ → Type 0) (xs : List ℕ) (x : ℕ) → All P xs → P x → All P (with_slot xs x)
All-with_slot P [] x all holds = All-cons P x [] holds (All-nil P)
All-with_slot P (y ∷ ys) x all holds =
    by (ltb x y) (eqb x y) (All-with_slot P ys x (All-tail P y ys all) holds)
  where
    by : (below same : Bool) → All P (with_slot ys x)
        → All P (if below then x ∷ y ∷ ys else if same then y ∷ ys else y ∷ with_slot ys x)
    by true same rest = All-cons P x (y ∷ ys) holds all
    by false true rest = all
    by false false rest = All-cons P y (with_slot ys x) (All-head P y ys all) rest

-- they ascend with one more
pub ascending-with_slot : (xs : List ℕ) (x : ℕ) → AreAscending xs → AreAscending (with_slot xs x)
ascending-with_slot [] x up = λ i j d before within. absurd (omega arith)
ascending-with_slot (y ∷ ys) x up =
    by (ltb x y) (eqb x y) refl refl (ascending-with_slot ys x (ascending-tail y ys up))
  where
    by : (below same : Bool) → ltb x y ≡ below → eqb x y ≡ same → AreAscending (with_slot ys x)
        → AreAscending (if below then x ∷ y ∷ ys else if same then y ∷ ys else y ∷ with_slot ys x)
    by true same below is rest =
        let under = ltb-true x y below in
        AllPairs-cons (λ a b. a < b) x (y ∷ ys)
        (All-cons (λ b. x < b) y ys under
        (λ k d within. omega (arith, under, ascending-head y ys up k d within)))
        up
    by false true below is rest = up
    by false false below is rest =
        AllPairs-cons (λ a b. a < b) y (with_slot ys x)
        (All-with_slot (λ b. y < b) ys x (ascending-head y ys up)
        (grind (arith, nat_tests)))
        rest
