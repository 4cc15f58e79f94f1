-- Types that are compared one after another.
use Rattle.std.proofs.Common.{◌≡◌, ℕ, ◌+◌, ◌<◌, Bool, true, false, List, [], ◌∷◌, ◌++◌, length}
use Rattle.std.proofs.Common.{take, get_or, refl, sym, ap, ◌∙◌}
use Rattle.std.proofs.lemmas.List.{take_more}
use Rattle.mms_data.specs.Types.TypeShape.{TypeShape}
use Rattle.mms_data.specs.Types.TypeShape.{TypeShapes, no_shapes, shapes, shapes_of}
use Rattle.mms_data.specs.Types.SameShape.{same_shape, same_shapes, same_shape-Decides}
use Rattle.mms_data.specs.Types.SameShape.{same_shapes-Decides}

-- one is no other
pub is_not : (b : Bool) → (b ≡ true → ⊥) → false ≡ b
is_not true none = absurd (none refl)
is_not false none = refl

list_of : TypeShapes → List TypeShape
list_of no_shapes = []
list_of (shapes s ss) = s ∷ list_of ss

list_of-shapes_of : (xs : List TypeShape) → list_of (shapes_of xs) ≡ xs
unfolding list_of
list_of-shapes_of [] = refl
list_of-shapes_of (x ∷ xs) = ap (λ ys. x ∷ ys) (list_of-shapes_of xs)

same_lists : (xs ys : List TypeShape) → shapes_of xs ≡ shapes_of ys → xs ≡ ys
same_lists xs ys e = sym (list_of-shapes_of xs) ∙ ap list_of e ∙ list_of-shapes_of ys

-- lists of types with another length, or with another type at a place, are not one
pub other_lists : (xs ys : List TypeShape) → (xs ≡ ys → ⊥)
    → false ≡ same_shapes (shapes_of xs) (shapes_of ys)
other_lists xs ys apart =
    is_not (same_shapes (shapes_of xs) (shapes_of ys))
    (λ e. apart (same_lists xs ys ((same_shapes-Decides (shapes_of xs) (shapes_of ys)).0 e)))

pub other_length : (xs ys : List TypeShape) → (length xs ≡ length ys → ⊥)
    → false ≡ same_shapes (shapes_of xs) (shapes_of ys)
other_length xs ys apart = other_lists xs ys (λ e. apart (ap length e))

pub other_at : (xs ys : List TypeShape) (i : ℕ) (x y d : TypeShape) → x ≡ get_or xs i d
    → y ≡ get_or ys i d → same_shape x y ≡ false
    → false ≡ same_shapes (shapes_of xs) (shapes_of ys)
other_at xs ys i x y d here there apart =
    other_lists xs ys (λ e.
    let same : x ≡ y = here ∙ ap (λ zs. get_or zs i d) e ∙ sym there in
    let yes : same_shape x y ≡ true = (same_shape-Decides x y).1 same in
    absurd cc)

pub all_same : (xs ys : List TypeShape) → xs ≡ ys
    → true ≡ same_shapes (shapes_of xs) (shapes_of ys)
all_same xs ys e = sym ((same_shapes-Decides (shapes_of xs) (shapes_of ys)).1 (ap shapes_of e))

pub one_more_same : (xs ys : List TypeShape) (i : ℕ) (x y d : TypeShape) → i < length xs
    → i < length ys → x ≡ get_or xs i d → y ≡ get_or ys i d → same_shape x y ≡ true
    → take i xs ≡ take i ys → take (i + 1) xs ≡ take (i + 1) ys
one_more_same xs ys i x y d one other here there same before =
    let is : x ≡ y = (same_shape-Decides x y).0 same in
    let e : get_or xs i d ≡ get_or ys i d = sym here ∙ is ∙ there in
    take_more xs i d one ∙ (λ j. before j ++ e j ∷ []) ∙ sym (take_more ys i d other)
