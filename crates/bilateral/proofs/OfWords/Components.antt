-- Components in order: whether one stands twice.
use Rattle.std.proofs.Common.{◌≡◌, ◌≢◌, ℕ, zero, suc, ◌<◌, Bool, true, false, not, ◌&&◌, ◌||◌, List}
use Rattle.std.proofs.Common.{[], ◌∷◌}
use Rattle.std.proofs.Common.{◌++◌, length, get_or, take, drop, ◌+◌, AllPairs, refl, sym, ap, ◌∙◌}
use Rattle.std.proofs.Common.{arith}
use Rattle.std.specs.List.{list_any}
use Rattle.std.proofs.lemmas.List.{take-append-drop, drop_more, take_more}
use Rattle.std.proofs.lemmas.List.Folds.{list_any-append}
use Rattle.std.proofs.lemmas.List.Kept.{AllPairs-cons}
use Rattle.std.proofs.lemmas.Bool.{false≢true, both_ways, and_parts, and_from, and_right, or_parts}
use Rattle.std.proofs.lemmas.Bool.{or_left, or_right, not-true}
use Rattle.tase_points.specs.declared.layout.Component.{Component}
use Rattle.tase_points.specs.Layouts.{IsLayout}
use Rattle.tase_points.specs.Same.{same_component}
use Rattle.tase_points.proofs.Same.{same_component-same}
use Rattle.bilateral.specs.Words.Words.{is_distinct}

-- where no element passes, none at any place does
list_any-false : {X : Type 0} (p : X → Bool) (xs : List X) (k : ℕ) (d : X)
    → list_any p xs ≡ false → k < length xs → p (get_or xs k d) ≡ false
list_any-false p [] k d none below = absurd (omega arith)
list_any-false p (x ∷ xs) zero d none below = (or_parts (p x) (list_any p xs) none).0
list_any-false p (x ∷ xs) (suc k) d none below =
    list_any-false p xs k d (or_parts (p x) (list_any p xs) none).1 (omega arith)

-- the four facts of tests that a list of components needs
distinct_more : (twice later : Bool) (rest : Bool) → (not twice && rest) ≡ true → later ≡ false
    → (not (twice || (later || false)) && rest) ≡ true
distinct_more true later rest both fresh = both
distinct_more false true rest both fresh = absurd (false≢true (sym fresh))
distinct_more false false rest both fresh = both

-- one component more, which isn't there yet
pub is_distinct-push : (so_far : List Component) (c : Component) → is_distinct so_far ≡ true
    → list_any (λ other. same_component other c) so_far ≡ false
    → is_distinct (so_far ++ c ∷ []) ≡ true
is_distinct-push [] c distinct fresh = refl
is_distinct-push (x ∷ xs) c distinct fresh =
    let parts = and_parts (not (list_any (same_component x) xs)) (is_distinct xs) distinct in
    let apart = or_parts (same_component x c) (list_any (λ other. same_component other c) xs)
    fresh in
    let rest = is_distinct-push xs c parts.1 apart.1 in
    ap (λ t. not t && is_distinct (xs ++ c ∷ [])) (list_any-append (same_component x) xs (c ∷ []))
    ∙ distinct_more (list_any (same_component x) xs) (same_component x c)
    (is_distinct (xs ++ c ∷ [])) (and_from _ _ parts.0 rest) apart.0

not_distinct : (same later early : Bool) (rest : Bool) → (same ≡ true → early ≡ true)
    → (later ≡ true → rest ≡ false) → (same || later) ≡ true → (not early && rest) ≡ false
not_distinct true later early rest one other there = ap (λ t. not t && rest) (one refl)
not_distinct false later early rest one other there = and_right (not early) rest (other there)

-- a component that is there already
pub is_distinct-again : (so_far more : List Component) (c : Component)
    → list_any (λ other. same_component other c) so_far ≡ true
    → is_distinct (so_far ++ c ∷ more) ≡ false
is_distinct-again [] more c there = absurd (false≢true there)
is_distinct-again (x ∷ xs) more c there =
    not_distinct (same_component x c) (list_any (λ other. same_component other c) xs)
    (list_any (same_component x) (xs ++ c ∷ more)) (is_distinct (xs ++ c ∷ more))
    (λ same. list_any-append (same_component x) xs (c ∷ more)
    ∙ or_right (list_any (same_component x) xs) _ (or_left (same_component x c) _ same))
    (λ later. is_distinct-again xs more c later) there

AllPairs-from_distinct : (components : List Component) → is_distinct components ≡ true
    → AllPairs (λ a b. a ≢ b) components
AllPairs-from_distinct [] distinct = λ i j d before below. absurd (omega arith)
AllPairs-from_distinct (x ∷ xs) distinct =
    let parts = and_parts (not (list_any (same_component x) xs)) (is_distinct xs) distinct in
    AllPairs-cons (λ a b. a ≢ b) x xs
    (λ k d below same. both_ways (same_component x (get_or xs k d))
    (list_any-false (same_component x) xs k d (not-true _ parts.0) below)
    (ap (same_component x) (sym same) ∙ same_component-same x))
    (AllPairs-from_distinct xs parts.1)

-- components none of which stands twice are a layout
pub IsLayout-from_distinct : (components : List Component) → 0 < length components
    → is_distinct components ≡ true → IsLayout components
IsLayout-from_distinct components some distinct =
    record { nonempty = some; distinct = AllPairs-from_distinct components distinct }

-- the component at a place stands before it already
pub is_distinct-at : (cs : List Component) (i : ℕ) (d : Component) → i < length cs
    → list_any (λ other. same_component other (get_or cs i d)) (take i cs) ≡ true
    → is_distinct cs ≡ false
is_distinct-at cs i d below there =
    ap is_distinct
    (sym (take-append-drop i cs) ∙ ap (λ rest. take i cs ++ rest) (drop_more cs i d below))
    ∙ is_distinct-again (take i cs) (drop (i + 1) cs) (get_or cs i d) there

-- the components up to a place, and the one at it
pub is_distinct-take : (cs : List Component) (i : ℕ) (d : Component) → i < length cs
    → is_distinct (take i cs) ≡ true
    → list_any (λ other. same_component other (get_or cs i d)) (take i cs) ≡ false
    → is_distinct (take (i + 1) cs) ≡ true
is_distinct-take cs i d below distinct fresh = ap is_distinct (take_more cs i d below)
    ∙ is_distinct-push (take i cs) (get_or cs i d) distinct fresh
