-- A tree over an index of transfer sets: its root has the first moment of all.
use Rattle.std.proofs.Common.{◌≡◌, ℕ, zero, suc, ◌+◌, ◌-◌, ◌*◌, ◌/◌, ◌<◌, ◌≤◌, ◌⊎◌, nat_lt, nat_le}
use Rattle.std.proofs.Common.{nat_eq, Bool, true, false, ◌&&◌, ◌||◌, Option, Some, None, List, length}
use Rattle.std.proofs.Common.{replicate, set, inl, inr, refl, sym, ap, ◌∙◌, subst, option_map}
use Rattle.std.proofs.Common.{if◌then◌else◌, slice_index_or}
use Rattle.std.proofs.Common.{arith, length-set, get_or-set_same, get_or-set_other}
use Rattle.std.proofs.Math.ListN.{get_or-eq_default}
use Rattle.std.proofs.lemmas.Bool.{cases_lt, false≢true, true≢false}
use Rattle.std.proofs.lemmas.Option.{none-some}
use Rattle.std.proofs.lemmas.Bool.Decides.{nat_tests}
use Rattle.std.proofs.lemmas.List.{length-replicate}
use Rattle.transfer_sets.specs.DueIndex.{next_at, IsFirst, IsFirstOf}
use Rattle.transfer_sets.specs.DueTree.{comes_first, first_of, leaf_at, node_at, IsFirstOfBoth}
use Rattle.transfer_sets.specs.DueTree.{AreFirstsBut, IsDueTree}

-- of two moments with their slots, or none, the one doesn't come behind the other
abbrev pub Precedes : Option (ℕ × ℕ) → Option (ℕ × ℕ) → Type 0
Precedes a None = Unit {0}
Precedes None (Some b) = ⊥
Precedes (Some a) (Some b) = (a.0 < b.0) ⊎ ((a.0 ≡ b.0) × (a.1 ≤ b.1))

precedes_same : (a : Option (ℕ × ℕ)) → Precedes a a
precedes_same None = tt
precedes_same (Some a) = inr (refl, omega arith)

precedes_on : (a b c : Option (ℕ × ℕ)) → Precedes a b → Precedes b c → Precedes a c
precedes_on a b None p q = tt
precedes_on a None (Some c) p q = absurd q
precedes_on None (Some b) (Some c) p q = absurd p
precedes_on (Some a) (Some b) (Some c) p q = elim p [
  | inl less ↦ elim q [
    | inl more ↦ inl (omega (arith, less, more))
    | inr same ↦ inl (let e = same.0 in omega (arith, less, e))
  ]
  | inr like ↦ elim q [
    | inl more ↦ inl (let e = like.0 in omega (arith, more, e))
    | inr same ↦ inr (
      let e = like.0 in let f = same.0 in omega (arith, e, f),
      let x = like.1 in let y = same.1 in omega (arith, x, y),
    )
  ]
]

-- the test tells which of two comes first
tests : (x y z : Bool) → (x || (y && z)) ≡ true → (x ≡ true) ⊎ ((y ≡ true) × (z ≡ true))
tests true y z e = inl refl
tests false true true e = inr (refl, refl)
tests false false z e = absurd (false≢true e)
tests false true false e = absurd (false≢true e)

tests_not : (x y z : Bool) → (x || (y && z)) ≡ false
    → (x ≡ false) × ((y ≡ false) ⊎ (z ≡ false))
tests_not false false z e = (refl, inl refl)
tests_not false true false e = (refl, inr refl)
tests_not false true true e = absurd (true≢false e)
tests_not true y z e = absurd (true≢false e)

first_true : (a b : ℕ × ℕ) → comes_first a b ≡ true → Precedes (Some a) (Some b)
first_true a b e = elim (tests (nat_lt a.0 b.0) (nat_eq a.0 b.0) (nat_le a.1 b.1) e) [
  | inl less ↦ inl (grind (arith, nat_tests))
  | inr both ↦ inr (
    let same = both.0 in grind (arith, nat_tests, same),
    let le = both.1 in grind (arith, nat_tests, le),
  )
]

first_false : (a b : ℕ × ℕ) → comes_first a b ≡ false → Precedes (Some b) (Some a)
first_false a b e =
    let t = tests_not (nat_lt a.0 b.0) (nat_eq a.0 b.0) (nat_le a.1 b.1) e in
    let not_less = t.0 in
    let le : b.0 ≤ a.0 = grind (arith, nat_tests, not_less) in
    elim (cases_lt b.0 a.0) [
      | inl less ↦ inl less
      | inr ge ↦ (let same : a.0 ≡ b.0 = omega (arith, le, ge) in elim t.1 [
        | inl other ↦ (let no : a.0 ≡ b.0 → ⊥ = grind (arith, nat_tests, other) in absurd (no same))
        | inr above ↦ inr (sym same, grind (arith, nat_tests, above))
      ])
    ]

-- the first of two is one of both, and precedes both
pub first_of-one : (a b : Option (ℕ × ℕ)) → (first_of a b ≡ a) ⊎ (first_of a b ≡ b)
first_of-one None b = inr refl
first_of-one (Some a) None = inl refl
first_of-one (Some a) (Some b) = by (comes_first a b) refl
  where
    by : (t : Bool) → comes_first a b ≡ t → (first_of (Some a) (Some b) ≡ Some a)
        ⊎ (first_of (Some a) (Some b) ≡ Some b)
    by true e = inl (rw e refl)
    by false e = inr (rw e refl)

first_of-left : (a b : Option (ℕ × ℕ)) → Precedes (first_of a b) a
first_of-left None b = tt
first_of-left (Some a) None = precedes_same (Some a)
first_of-left (Some a) (Some b) = by (comes_first a b) refl
  where
    by : (t : Bool) → comes_first a b ≡ t → Precedes (first_of (Some a) (Some b)) (Some a)
    by true e = rw e (precedes_same (Some a))
    by false e = rw e (first_false a b e)

first_of-right : (a b : Option (ℕ × ℕ)) → Precedes (first_of a b) b
first_of-right None b = precedes_same b
first_of-right (Some a) None = tt
first_of-right (Some a) (Some b) = by (comes_first a b) refl
  where
    by : (t : Bool) → comes_first a b ≡ t → Precedes (first_of (Some a) (Some b)) (Some b)
    by true e = rw e (first_true a b e)
    by false e = rw e (precedes_same (Some b))

-- a number is twice its half, or one more
halves : (j : ℕ) → (j ≡ 2 * (j / 2)) ⊎ (j ≡ 2 * (j / 2) + 1)
halves j = elim (cases_lt (2 * (j / 2)) j) [
  | inl less ↦ inr (omega (arith, less))
  | inr le ↦ inl (omega (arith, le))
]

same_or_not : (t s : ℕ) → (t ≡ s) ⊎ (t ≡ s → ⊥)
same_or_not t s = elim (cases_lt t s) [
  | inl less ↦ inr (λ e. omega (arith, less, e))
  | inr ge ↦ elim (cases_lt s t) [
    | inl more ↦ inr (λ e. omega (arith, more, e))
    | inr le ↦ inl (omega (arith, ge, le))
  ]
]

-- ---- nodes, where inner ones have the first of their children

module _ (node : ℕ → Option (ℕ × ℕ)) (n : ℕ)
    (inner : (i : ℕ) → 1 ≤ i → i < n → node i ≡ first_of (node (2 * i)) (node (2 * i + 1))) where
  -- the parent precedes its child
  below_parent : (j : ℕ) → 2 ≤ j → j < 2 * n → Precedes (node (j / 2)) (node j)
  below_parent j two below = elim (halves j) [
    | inl e ↦ rw (inner (j / 2) (omega arith) (omega arith)) (subst
        (λ x. Precedes (first_of (node (2 * (j / 2))) (node (2 * (j / 2) + 1))) (node x)) (sym e)
        (first_of-left (node (2 * (j / 2))) (node (2 * (j / 2) + 1))))
    | inr e ↦ rw (inner (j / 2) (omega arith) (omega arith)) (subst
        (λ x. Precedes (first_of (node (2 * (j / 2))) (node (2 * (j / 2) + 1))) (node x)) (sym e)
        (first_of-right (node (2 * (j / 2))) (node (2 * (j / 2) + 1))))
  ]

  -- the root precedes all
  pub root_first : (fuel j : ℕ) → j < fuel → 1 ≤ j → j < 2 * n → Precedes (node 1) (node j)
  root_first zero j less one below = absurd (omega (arith, less))
  root_first (suc fuel) j less one below = elim (cases_lt j 2) [
    | inl first ↦ (let e : 1 ≡ j = omega (arith, first, one) in
        subst (λ x. Precedes (node 1) (node x)) e (precedes_same (node 1)))
    | inr two ↦ precedes_on (node 1) (node (j / 2)) (node j)
        (root_first fuel (j / 2) (omega arith) (omega arith) (omega arith))
        (below_parent j two below)
  ]

  -- what a node has is a leaf's
  pub of_leaf : (P : Option (ℕ × ℕ) → Type 0) → ((i : ℕ) → n ≤ i → P (node i)) → (fuel i : ℕ)
      → 2 * n ≤ i + fuel → 1 ≤ i → P (node i)
  of_leaf P leaves zero i far one = leaves i (omega (arith, far))
  of_leaf P leaves (suc fuel) i far one = elim (cases_lt i n) [
    | inl less ↦ (let lower = of_leaf P leaves fuel (2 * i) (omega (arith, far, one))
        (omega (arith, one)) in
        let higher = of_leaf P leaves fuel (2 * i + 1) (omega (arith, far, one)) (omega arith) in
        elim (first_of-one (node (2 * i)) (node (2 * i + 1))) [
          | inl e ↦ rw (inner i one less, e) lower
          | inr e ↦ rw (inner i one less, e) higher
        ])
    | inr ge ↦ leaves i ge
  ]

-- ---- the tree of an index

-- a moment with its slot, if there is one, stands in the index
abbrev pub StandsIn : List (Option ℕ) → Option (ℕ × ℕ) → Type 0
StandsIn index None = Unit {0}
StandsIn index (Some first) = next_at index first.1 ≡ Some first.0

leaf_stands : (index : List (Option ℕ)) (s : ℕ) → StandsIn index (leaf_at index s)
leaf_stands index s = by (next_at index s) refl
  where
    by : (next : Option ℕ) → next_at index s ≡ next → StandsIn index (leaf_at index s)
    by None e = rw e tt
    by (Some moment) e = rw e e

node_leaf : (index : List (Option ℕ)) (firsts : List (Option (ℕ × ℕ))) (i : ℕ)
    → length firsts ≤ i → node_at index firsts i ≡ leaf_at index (i - length firsts)
node_leaf index firsts i le =
    let e : nat_lt i (length firsts) ≡ false = grind (arith, nat_tests, le) in rw e refl

node_inner : (index : List (Option ℕ)) (firsts : List (Option (ℕ × ℕ))) (i : ℕ)
    → i < length firsts → node_at index firsts i ≡ slice_index_or firsts i None
node_inner index firsts i less =
    let e : nat_lt i (length firsts) ≡ true = grind (arith, nat_tests, less) in rw e refl

-- the leaf of a slot is its node
slot_node : (index : List (Option ℕ)) (firsts : List (Option (ℕ × ℕ))) (s : ℕ)
    → node_at index firsts (length firsts + s) ≡ leaf_at index s
slot_node index firsts s = node_leaf index firsts (length firsts + s) (omega arith)
    ∙ ap (leaf_at index) (omega arith)

-- what has a moment is within the index
within_index : (index : List (Option ℕ)) (s moment : ℕ) → next_at index s ≡ Some moment
    → s < length index
within_index index s moment e = elim (cases_lt s (length index)) [
  | inl less ↦ less
  | inr ge ↦ absurd (none-some moment (sym (get_or-eq_default index None ge) ∙ e))
]

-- the root has the first moment of the index
pub root_is_first : (index : List (Option ℕ)) (firsts : List (Option (ℕ × ℕ)))
    → IsDueTree index firsts → IsFirst index (node_at index firsts 1)
root_is_first index firsts tree = by (node_at index firsts 1) refl
  where
    n : ℕ
    n = length firsts

    before : (t : ℕ) → t < length index → Precedes (node_at index firsts 1) (leaf_at index t)
    before t less = let many = tree.many in rw (sym (slot_node index firsts t))
        (root_first (node_at index firsts) (length firsts) tree.inner
        (suc (length firsts + t)) (length firsts + t) (omega arith) (omega (arith, many, less))
        (omega (arith, many, less)))

    stands : StandsIn index (node_at index firsts 1)
    stands = of_leaf (node_at index firsts) (length firsts) tree.inner (StandsIn index)
        (λ i ge. rw (node_leaf index firsts i ge) (leaf_stands index (i - length firsts)))
        (2 * length firsts) 1 (omega arith) (omega arith)

    later : (first : ℕ × ℕ) → node_at index firsts 1 ≡ Some first → (t other : ℕ)
        → next_at index t ≡ Some other
        → (first.0 < other) ⊎ ((first.0 ≡ other) × (first.1 ≤ t))
    later first e t other f = let p = before t (within_index index t other f) in
        rw (e, f) at p

    by : (root : Option (ℕ × ℕ)) → node_at index firsts 1 ≡ root → IsFirst index root
    by None e = λ s less. none_of s (next_at index s) refl
      where
        none_of : (s : ℕ) (next : Option ℕ) → next_at index s ≡ next → next ≡ None
        none_of s None f = refl
        none_of s (Some moment) f = let p = before s (within_index index s moment f) in
            absurd (rw (e, f) at p)
    by (Some first) e = record {
      within = within_index index first.1 first.0 here;
      here = here;
      least = λ t other less f. elim (later first e t other f) [
        | inl below ↦ omega (arith, below)
        | inr same ↦ (let x = same.0 in omega (arith, x))
      ];
      lowest = λ t less f. elim (later first e t first.0 f) [
        | inl below ↦ omega (arith, below)
        | inr same ↦ (let x = same.1 in omega (arith, x, less))
      ];
    }
      where
        here : next_at index first.1 ≡ Some first.0
        here = rw e at stands

-- ---- a node that is made anew

abbrev Firsts : Type 0
Firsts = List (Option (ℕ × ℕ))

node_kept : (index : List (Option ℕ)) (firsts : Firsts) (n k : ℕ) (v : Option (ℕ × ℕ))
    → (k ≡ n → ⊥) → node_at index (set firsts n v) k ≡ node_at index firsts k
node_kept index firsts n k v other = elim (cases_lt k (length firsts)) [
  | inl less ↦ node_inner index (set firsts n v) k (rw (length-set firsts n v) less)
      ∙ get_or-set_other firsts n k v None other ∙ sym (node_inner index firsts k less)
  | inr ge ↦ node_leaf index (set firsts n v) k (rw (length-set firsts n v) ge)
      ∙ ap (λ l. leaf_at index (k - l)) (length-set firsts n v)
      ∙ sym (node_leaf index firsts k ge)
]

node_put : (index : List (Option ℕ)) (firsts : Firsts) (n : ℕ) (v : Option (ℕ × ℕ))
    → n < length firsts → node_at index (set firsts n v) n ≡ v
node_put index firsts n v less =
    node_inner index (set firsts n v) n (rw (length-set firsts n v) less)
    ∙ get_or-set_same firsts n v None less

-- behind a node that was made anew its parent is the one whose child has changed
pub renewed : (index : List (Option ℕ)) (firsts : Firsts) (n : ℕ) (v : Option (ℕ × ℕ)) → 1 ≤ n
    → n < length firsts
    → v ≡ first_of (node_at index firsts (2 * n)) (node_at index firsts (2 * n + 1))
    → AreFirstsBut n index firsts → AreFirstsBut (n / 2) index (set firsts n v)
renewed index firsts n v one less e others i low below not_parent =
    elim (same_or_not i n) [
      | inl same ↦ subst (IsFirstOfBoth index (set firsts n v)) (sym same)
          (node_put index firsts n v less ∙ e ∙ sym (children n (omega (arith, one))
          (omega (arith, one))))
      | inr other ↦ node_kept index firsts n i v other
          ∙ others i low (let l = length-set firsts n v in omega (arith, below, l)) other
          ∙ sym (children i (λ f. not_parent (omega (arith, f))) (λ f. not_parent (omega (arith, f))))
    ]
  where
    children : (k : ℕ) → (2 * k ≡ n → ⊥) → (2 * k + 1 ≡ n → ⊥)
        → first_of (node_at index (set firsts n v) (2 * k))
        (node_at index (set firsts n v) (2 * k + 1))
        ≡ first_of (node_at index firsts (2 * k)) (node_at index firsts (2 * k + 1))
    children k lower higher = rw (
      node_kept index firsts n (2 * k) v lower,
      node_kept index firsts n (2 * k + 1) v higher,
    ) refl

-- a moment of an index changes its leaf alone
pub leaf_set : (index : List (Option ℕ)) (firsts : Firsts) (s : ℕ) (moment : Option ℕ)
    → IsDueTree index firsts → AreFirstsBut ((length firsts + s) / 2) (set index s moment) firsts
leaf_set index firsts s moment tree i low below not_parent =
    kept i (λ f. absurd (omega (arith, f, below)))
    ∙ tree.inner i low below
    ∙ sym (rw (
      kept (2 * i) (λ f. not_parent (omega (arith, f))),
      kept (2 * i + 1) (λ f. not_parent (omega (arith, f))),
    ) refl)
  where
    kept : (k : ℕ) → (k ≡ length firsts + s → ⊥)
        → node_at (set index s moment) firsts k ≡ node_at index firsts k
    kept k other = elim (cases_lt k (length firsts)) [
      | inl less ↦ node_inner (set index s moment) firsts k less
          ∙ sym (node_inner index firsts k less)
      | inr ge ↦ node_leaf (set index s moment) firsts k ge
          ∙ ap (option_map (λ m. (m, k - length firsts))) (get_or-set_other index s
          (k - length firsts) moment None (λ f. other (omega (arith, f, ge))))
          ∙ sym (node_leaf index firsts k ge)
    ]

abbrev no : (A : Type 0) → Option A
no A = None

abbrev no_node : Option (ℕ × ℕ)
no_node = None

-- the tree of an index none of whose slots has a moment
pub tree_start : (n : ℕ) → IsDueTree (replicate n None) (replicate n None)
tree_start n = record {
  many = length-replicate n None ∙ sym (length-replicate n None);
  inner = λ i low below. none i ∙ sym (rw (none (2 * i), none (2 * i + 1)) refl);
}
  where
    nothing : (A : Type 0) (n i : ℕ) → slice_index_or (replicate n (no A)) i (no A) ≡ no A
    nothing A zero i = refl
    nothing A (suc n) zero = refl
    nothing A (suc n) (suc i) = nothing A n i

    none : (i : ℕ) → node_at (replicate n None) (replicate n None) i ≡ None
    none i = elim (cases_lt i (length (replicate n no_node))) [
      | inl less ↦ node_inner (replicate n None) (replicate n None) i less
          ∙ nothing (ℕ × ℕ) n i
      | inr ge ↦ node_leaf (replicate n None) (replicate n None) i ge
          ∙ ap (option_map (λ m. (m, i - length (replicate n no_node))))
          (nothing ℕ n (i - length (replicate n no_node)))
    ]
