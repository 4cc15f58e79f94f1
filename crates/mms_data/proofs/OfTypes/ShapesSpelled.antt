-- The text of components grows by one component.
use Rattle.std.proofs.Common.{◌≡◌, ℕ, zero, suc, ◌+◌, ◌<◌, List, [], ◌∷◌, ◌++◌, length, take}
use Rattle.std.proofs.Common.{get_or, sym, ap, ◌∙◌, append_assoc, append-nil, length-take, arith}
use Rattle.std.proofs.lemmas.List.{take_more}
use Rattle.mms_data.specs.Types.TypeShape.{TypeShape, shapes_of}
use Rattle.mms_data.specs.Types.ShapeTexts.{shape_text, components_text, further_components}
use Rattle.plain_text.proofs.Extended.{Extends-append}

pub further_components-push : (ss : List TypeShape) (s : TypeShape)
    → further_components (shapes_of (ss ++ s ∷ []))
    ≡ further_components (shapes_of ss) ++ 44 ∷ shape_text s
further_components-push [] s = ap (λ t. 44 ∷ t) (append-nil (shape_text s))
further_components-push (x ∷ xs) s =
    ap (λ t. 44 ∷ (shape_text x ++ t)) (further_components-push xs s)
    ∙ ap (λ t. 44 ∷ t)
    (sym (append_assoc (shape_text x) (further_components (shapes_of xs)) (44 ∷ shape_text s)))

pub components_text-push : (ss : List TypeShape) (s : TypeShape) → 0 < length ss
    → components_text (shapes_of (ss ++ s ∷ []))
    ≡ components_text (shapes_of ss) ++ 44 ∷ shape_text s
components_text-push [] s h = absurd (omega arith)
components_text-push (x ∷ xs) s h =
    ap (λ t. shape_text x ++ t) (further_components-push xs s)
    ∙ sym (append_assoc (shape_text x) (further_components (shapes_of xs)) (44 ∷ shape_text s))

-- the text of the first component
pub components_text-take_one : (ss : List TypeShape) (i : ℕ) (s : TypeShape) → i < length ss
    → i ≡ 0 → components_text (shapes_of (take (i + 1) ss))
    ≡ components_text (shapes_of (take i ss)) ++ shape_text (get_or ss i s)
components_text-take_one [] i s h e = absurd (omega arith)
components_text-take_one (x ∷ xs) zero s h e = append-nil (shape_text x)
components_text-take_one (x ∷ xs) (suc i) s h e = absurd (omega arith)

-- the text of one component more
pub components_text-take_more : (ss : List TypeShape) (i : ℕ) (s : TypeShape) → i < length ss
    → 0 < i → components_text (shapes_of (take (i + 1) ss))
    ≡ components_text (shapes_of (take i ss)) ++ 44 ∷ shape_text (get_or ss i s)
components_text-take_more ss i s h p =
    rw (take_more ss i s h)
    (components_text-push (take i ss) (get_or ss i s) (omega (arith, length-take i ss)))

pub ruleset spelled_components =
    (Extends-append, components_text-take_one, components_text-take_more)
