-- The first item of a page that doesn't stand above the one before it, found item by item.
use Rattle.std.proofs.Common.{◌≡◌, ℕ, ◌+◌, ◌<◌, Bool, true, false, List, [], ◌∷◌, length}
use Rattle.std.proofs.Common.{get_or, drop, Option, Some, None, refl, sym, ap, ◌∙◌, arith, add-one}
use Rattle.std.proofs.Common.{drop-cons}
use Rattle.std.specs.Prelude.{option_map, cond}
use Rattle.tase_views.specs.NameLists.{is_after}
use Rattle.tase_discover.specs.Listings.{first_fallen}

-- its place among all, where these items are behind as many others
abbrev pub fallen_from : ℕ → Option (List ℕ) → List (List ℕ) → Option ℕ
fallen_from place before items = option_map (λ k. k + place) (first_fallen before items)

at_first : (r : Option ℕ) → option_map (λ k. k + 0) r ≡ r
at_first None = refl
at_first (Some k) = let e : k + 0 ≡ k = omega arith in ap (λ (n : ℕ). Some n) e

pub fallen_begun : (last : Option (List ℕ)) (items : List (List ℕ))
    → fallen_from 0 last items ≡ first_fallen last items
fallen_begun last items = at_first (first_fallen last items)

at_next : (place : ℕ) (r : Option ℕ)
    → option_map (λ k. k + place) (option_map (λ k. k + 1) r) ≡ option_map (λ k. k + (place + 1)) r
at_next place None = refl
at_next place (Some k) =
    let e : k + 1 + place ≡ k + (place + 1) = omega arith in ap (λ (n : ℕ). Some n) e

-- an item that stands above the one before it, and one that doesn't
fallen_passed : (before : Option (List ℕ)) (item : List ℕ) (rest : List (List ℕ)) (place : ℕ)
    → is_after before item ≡ true
    → fallen_from place before (item ∷ rest) ≡ fallen_from (place + 1) (Some item) rest
fallen_passed before item rest place above =
    ap (λ (b : Bool). option_map (λ (k : ℕ). k + place)
    (cond b (option_map (λ (k : ℕ). k + 1) (first_fallen (Some item) rest)) (Some 0))) above
    ∙ at_next place (first_fallen (Some item) rest)

fallen_here : (before : Option (List ℕ)) (item : List ℕ) (rest : List (List ℕ)) (place : ℕ)
    → is_after before item ≡ false → fallen_from place before (item ∷ rest) ≡ Some place
fallen_here before item rest place below =
    let e : 0 + place ≡ place = omega arith in
    ap (λ (b : Bool). option_map (λ (k : ℕ). k + place)
    (cond b (option_map (λ (k : ℕ). k + 1) (first_fallen (Some item) rest)) (Some 0))) below
    ∙ ap (λ (n : ℕ). Some n) e

left : (items : List (List ℕ)) (i : ℕ) → i < length items
    → drop i items ≡ get_or items i [] ∷ drop (i + 1) items
left items i within = rw (add-one, drop-cons items i []) refl

-- the same at a place of a page
pub passed_at : (before : Option (List ℕ)) (items : List (List ℕ)) (i : ℕ) (item : List ℕ)
    (all : Option ℕ) → i < length items → item ≡ get_or items i [] → is_after before item ≡ true
    → fallen_from i before (drop i items) ≡ all
    → fallen_from (i + 1) (Some item) (drop (i + 1) items) ≡ all
passed_at before items i item all within is above so_far =
    let rest : drop i items ≡ item ∷ drop (i + 1) items =
    left items i within ∙ ap (λ (x : List ℕ). x ∷ drop (i + 1) items) (sym is) in
    sym (fallen_passed before item (drop (i + 1) items) i above)
    ∙ ap (fallen_from i before) (sym rest) ∙ so_far

pub here_at : (before : Option (List ℕ)) (items : List (List ℕ)) (i : ℕ) (item : List ℕ)
    (all : Option ℕ) → i < length items → item ≡ get_or items i [] → is_after before item ≡ false
    → fallen_from i before (drop i items) ≡ all → Some i ≡ all
here_at before items i item all within is below so_far =
    let rest : drop i items ≡ item ∷ drop (i + 1) items =
    left items i within ∙ ap (λ (x : List ℕ). x ∷ drop (i + 1) items) (sym is) in
    sym (fallen_here before item (drop (i + 1) items) i below)
    ∙ ap (fallen_from i before) (sym rest) ∙ so_far
