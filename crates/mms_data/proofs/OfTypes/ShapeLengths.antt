-- Lengths of the written form of types, and what holds of each component.
use Rattle.std.proofs.Common.{◌≡◌, ℕ, zero, suc, ◌+◌, ◌<◌, ◌≤◌, List, [], ◌∷◌, ◌++◌, length, take}
use Rattle.std.proofs.Common.{get_or, sym, ap, ◌∙◌, append_assoc, append-nil, arith}
use Rattle.std.proofs.lemmas.List.{length-append, take_more}
use Rattle.ber_values.specs.Lengths.{capped, part_size}
use Rattle.ber_values.specs.Writing.{head_octets, written}
use Rattle.ber_values.specs.declared.lengths.TheConstants.{MOST_LENGTH}
use Rattle.ber_values.proofs.Capped.{capped-sum, capped-written, length-written, part_size-more}
use Rattle.plain_text.proofs.Extended.{Extends-append}
use Rattle.mms_data.specs.Types.TypeShape.{TypeShape, shapes_of, shape_depth, deepest_shape}
use Rattle.mms_data.specs.Types.ShapeWritten.{shape_octets, components_octets}

-- a component
abbrev pub component_octets : TypeShape → List ℕ
component_octets s = written 48 (written 161 (shape_octets s))

-- one component more
pub components_octets-push : (ss : List TypeShape) (s : TypeShape)
    → components_octets (shapes_of (ss ++ s ∷ []))
    ≡ components_octets (shapes_of ss) ++ component_octets s
components_octets-push [] s = append-nil (component_octets s)
components_octets-push (x ∷ xs) s =
    ap (λ os. component_octets x ++ os) (components_octets-push xs s)
    ∙ sym
    (append_assoc (component_octets x) (components_octets (shapes_of xs)) (component_octets s))

pub components_octets-take : (ss : List TypeShape) (i : ℕ) (s : TypeShape) → i < length ss
    → components_octets (shapes_of (take (i + 1) ss))
    ≡ components_octets (shapes_of (take i ss)) ++ component_octets (get_or ss i s)
components_octets-take ss i s lt =
    rw (take_more ss i s lt) (components_octets-push (take i ss) (get_or ss i s))

-- the length of an element within an element
pub capped-twice : (outer tag : ℕ) (n p r : ℕ) (contents : List ℕ) → n ≡ capped (length contents)
    → p ≡ capped (part_size n) → r ≡ capped (part_size p)
    → r ≡ capped (length (written outer (written tag contents)))
capped-twice outer tag n p r contents e inner is =
    is ∙ capped-written outer p (written tag contents) (inner ∙ capped-written tag n contents e)

pub capped-component : (ss : List TypeShape) (i : ℕ) (s : TypeShape) → i < length ss
    → capped (capped (length (components_octets (shapes_of (take i ss))))
    + capped (length (component_octets (get_or ss i s))))
    ≡ capped (length (components_octets (shapes_of (take (i + 1) ss))))
capped-component ss i s lt =
    let front = components_octets (shapes_of (take i ss)) in
    let next = component_octets (get_or ss i s) in
    capped-sum (length front) (length next)
    ∙ ap capped (sym (ap length (components_octets-take ss i s lt) ∙ length-append front next))

-- a component is no longer than all of them
pub component_few : (ss : List TypeShape) (i : ℕ) (s : TypeShape) → i < length ss
    → length (component_octets (get_or ss i s)) ≤ length (components_octets (shapes_of ss))
component_few [] i s lt = absurd (omega (arith, lt))
component_few (x ∷ xs) zero s lt =
    omega (arith, length-append (component_octets x) (components_octets (shapes_of xs)))
component_few (x ∷ xs) (suc i) s lt = omega (
  arith,
  component_few xs i s (omega (arith, lt)),
  length-append (component_octets x) (components_octets (shapes_of xs)),
)

-- a component is no deeper than the deepest
pub component_shallow : (ss : List TypeShape) (i : ℕ) (s : TypeShape) → i < length ss
    → shape_depth (get_or ss i s) ≤ deepest_shape (shapes_of ss)
component_shallow [] i s lt = absurd (omega (arith, lt))
component_shallow (x ∷ xs) zero s lt = omega arith
component_shallow (x ∷ xs) (suc i) s lt =
    omega (arith, component_shallow xs i s (omega (arith, lt)))

-- two heads, and what is in the inner one
pub twice-written : (outer tag len size : ℕ) (old mid next new contents : List ℕ)
    → len ≡ capped (length contents) → size ≡ capped (length (written tag contents))
    → length (written outer (written tag contents)) < MOST_LENGTH
    → mid ≡ old ++ head_octets outer size → next ≡ mid ++ head_octets tag len
    → new ≡ next ++ contents → new ≡ old ++ written outer (written tag contents)
twice-written outer tag len size old mid next new contents is around few one two last =
    let more = part_size-more (length contents) in
    let wide = part_size-more (length (written tag contents)) in
    let within = length-written tag contents in
    let all = length-written outer (written tag contents) in
    let same : len ≡ length contents = omega (arith, is, few, more, wide, within, all) in
    let whole : size ≡ length (written tag contents) = omega (arith, around, few, wide, all) in
    let outer_head = head_octets outer (length (written tag contents)) in
    let inner_head = head_octets tag (length contents) in
    last
    ∙ ap (λ os. os ++ contents) (two ∙ ap (λ k. mid ++ head_octets tag k) same)
    ∙ append_assoc mid inner_head contents
    ∙ ap (λ os. os ++ written tag contents) (one ∙ ap (λ k. old ++ head_octets outer k) whole)
    ∙ append_assoc old outer_head (written tag contents)

-- contents are shorter than the element in an element
pub few_within : (outer tag : ℕ) (contents : List ℕ)
    → length contents + 4 ≤ length (written outer (written tag contents))
few_within outer tag contents = omega (
  arith,
  length-written outer (written tag contents),
  part_size-more (length (written tag contents)),
  length-written tag contents,
  part_size-more (length contents),
)

pub ruleset written_components = (components_octets-take, component_few, Extends-append)
