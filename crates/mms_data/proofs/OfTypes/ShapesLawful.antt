-- What octets spell is the type of a variable: not too deep, and with numbers that it may have.
use Rattle.std.proofs.Common.{◌≡◌, ℕ, zero, suc, ◌≤◌, leb, true, List, [], ◌∷◌}
use Rattle.std.proofs.Common.{ℤ, nat_abs, refl, sym, subst, arith}
use Rattle.std.proofs.lemmas.Bool.{and_parts, leb-true}
use Rattle.ber_values.specs.Reading.{Taken}
use Rattle.ber_values.specs.Grammars.{Grammar, refused, then_in}
use Rattle.ber_values.specs.Parts.{Contents, part_in, contents_as, contents_where, all_in}
use Rattle.ber_values.specs.Lists.{BeginsList, list_in}
use Rattle.ber_values.specs.Leaves.{unsigned_within, fixed}
use Rattle.ber_values.proofs.Holding.{part-holds, choose-holds, as-holds, all-holds}
use Rattle.mms_data.specs.Types.TypeShape.{TypeShape, bool_shape, bits_shape, int_shape}
use Rattle.mms_data.specs.Types.TypeShape.{uint_shape, real_shape, text_shape}
use Rattle.mms_data.specs.Types.TypeShape.{TypeShapes, shapes_of, shape_depth, deepest_shape}
use Rattle.mms_data.specs.Types.TypeShape.{is_shape_size, IsShapeSize, KeepsSizes, KeepAllSizes}
use Rattle.mms_data.specs.Types.TypeShape.{IsTypeShape}
use Rattle.mms_data.specs.Types.ShapeOctets.{shape_size, signed_size, real_parts, plain_shape}
use Rattle.mms_data.specs.Types.ShapeOctets.{passed_once, marked_in, structured, component_in}
use Rattle.mms_data.specs.Types.ShapeOctets.{shape_within, one_shape}

-- at most so many levels, and each number one that a shape may have
pub record IsShapeWithin (n : ℕ) (s : TypeShape) : Type 0 where
  pub shallow : shape_depth s ≤ n
  pub sizes : KeepsSizes s

pub record AreShapesWithin (n : ℕ) (ss : TypeShapes) : Type 0 where
  pub shallow : deepest_shape ss ≤ n
  pub sizes : KeepAllSizes ss

size_kept : (n : ℕ) → is_shape_size n ≡ true → IsShapeSize n
size_kept n e =
    let parts = and_parts (leb 1 n) (leb n 255) e in
    (leb-true 1 n parts.0, leb-true n 255 parts.1)

sizes_kept : (place n : ℕ) (inner : List ℕ) → shape_size.spells place n inner → IsShapeSize n
unfolding shape_size unsigned_within contents_where
sizes_kept place n inner h = subst IsShapeSize (sym h.2.1) (size_kept h.0 h.2.0)

signs_kept : (place n : ℕ) (inner : List ℕ) → signed_size.spells place n inner → IsShapeSize n
unfolding signed_size contents_as contents_where
signs_kept place n inner h =
    let kept = size_kept (nat_abs h.1.0) h.1.2.0 in
    let same = subst (λ (z : ℤ). IsShapeSize (nat_abs z)) (sym h.1.2.1) kept in
    subst IsShapeSize (sym h.2) same

-- a shape without components
plain_within : (n : ℕ) (s : TypeShape) → shape_depth s ≡ 1 → KeepsSizes s → IsShapeWithin (suc n) s
plain_within n s level sizes = record { shallow = omega (arith, level); sizes = sizes }

refused_holds : (P : TypeShape → Type 0) (at : ℕ) (os : List ℕ) (t : Taken TypeShape)
    → (refused {X = TypeShape}).begins at os t → P t.value
unfolding refused
refused_holds P at os t h = absurd h

plain_lawful : (n at : ℕ) (os : List ℕ) (t : Taken TypeShape) → plain_shape.begins at os t
    → IsShapeWithin (suc n) t.value
unfolding plain_shape
plain_lawful n at os t =
    let P : TypeShape → Type 0 = IsShapeWithin (suc n) in
    choose-holds P 131 _ _ at os t
    (as-holds P (λ u. bool_shape) (fixed []) (λ place u inner s. plain_within n bool_shape refl tt))
    (choose-holds P 132 _ _ at os t
    (as-holds P bits_shape signed_size
    (λ place k inner s. plain_within n (bits_shape k) refl (signs_kept place k inner s)))
    (choose-holds P 133 _ _ at os t
    (as-holds P int_shape shape_size
    (λ place k inner s. plain_within n (int_shape k) refl (sizes_kept place k inner s)))
    (choose-holds P 134 _ _ at os t
    (as-holds P uint_shape shape_size
    (λ place k inner s. plain_within n (uint_shape k) refl (sizes_kept place k inner s)))
    (choose-holds P 167 _ _ at os t
    (as-holds P (λ u. real_shape) real_parts
    (λ place u inner s. plain_within n real_shape refl tt))
    (choose-holds P 138 _ _ at os t
    (as-holds P text_shape signed_size
    (λ place k inner s. plain_within n (text_shape k) refl (signs_kept place k inner s)))
    (refused_holds P at os t))))))

-- of contents that are an element behind a mark
pub marked-holds : {X : Type 0} (P : X → Type 0) (c : Contents X)
    → ((place : ℕ) (x : X) (inner : List ℕ) → c.spells place x inner → P x)
    → (place : ℕ) (x : X) (inner : List ℕ) → (marked_in c).spells place x inner → P x
unfolding marked_in then_in
marked-holds P c each place x inner h =
    all-holds P (then_in (passed_once 128) (λ u. part_in 161 c))
    (λ at os t b. part-holds P 161 c b.0.next b.0.rest t each b.2) place x inner h

component_holds : (P : TypeShape → Type 0) (g : Grammar TypeShape)
    → ((at : ℕ) (os : List ℕ) (t : Taken TypeShape) → g.begins at os t → P t.value)
    → (at : ℕ) (os : List ℕ) (t : Taken TypeShape) → (component_in g).begins at os t → P t.value
unfolding component_in
component_holds P g each at os t h =
    part-holds P 48 (marked_in (all_in g)) at os t
    (marked-holds P (all_in g) (all-holds P g each)) h

components_lawful : (n : ℕ) (g : Grammar TypeShape)
    → ((at : ℕ) (os : List ℕ) (t : Taken TypeShape) → g.begins at os t → IsShapeWithin n t.value)
    → (xs : List TypeShape) (at : ℕ) (os : List ℕ) (end : ℕ) (rest : List ℕ)
    → BeginsList g at os xs end rest → AreShapesWithin n (shapes_of xs)
components_lawful n g each [] at os end rest s = record { shallow = omega arith; sizes = tt }
components_lawful n g each (x ∷ xs) at os end rest s =
    let t = s.0 in
    let first : IsShapeWithin n x = subst (IsShapeWithin n) (sym s.3) (each at os t s.2) in
    let others : AreShapesWithin n (shapes_of xs) =
    components_lawful n g each xs t.next t.rest end rest s.4 in
    record {
      shallow = omega (arith, first.shallow, others.shallow);
      sizes = (first.sizes, others.sizes);
    }

structure_lawful : (n : ℕ) (g : Grammar TypeShape)
    → ((at : ℕ) (os : List ℕ) (t : Taken TypeShape) → g.begins at os t → IsShapeWithin n t.value)
    → (place : ℕ) (xs : List TypeShape) (inner : List ℕ) → (list_in 0 g).spells place xs inner
    → IsShapeWithin (suc n) (structured xs)
unfolding list_in
structure_lawful n g each place xs inner s =
    let all = components_lawful n g each xs place inner s.end [] s.spelled in
    record { shallow = omega (arith, all.shallow); sizes = all.sizes }

pub lawful_within : (n at : ℕ) (os : List ℕ) (t : Taken TypeShape) → (shape_within n).begins at os t
    → IsShapeWithin n t.value
unfolding shape_within
lawful_within zero at os t h = refused_holds (IsShapeWithin 0) at os t h
lawful_within (suc n) at os t h =
    let P : TypeShape → Type 0 = IsShapeWithin (suc n) in
    let g = component_in (shape_within n) in
    let each = component_holds (IsShapeWithin n) (shape_within n) (lawful_within n) in
    choose-holds P 162 _ _ at os t
    (marked-holds P (contents_as structured (list_in 0 g))
    (as-holds P structured (list_in 0 g) (structure_lawful n g each)))
    (plain_lawful n at os t) h

-- what octets begin with is the type of a variable
pub shape_lawful : (at : ℕ) (os : List ℕ) (t : Taken TypeShape) → one_shape.begins at os t
    → IsTypeShape t.value
unfolding one_shape
shape_lawful at os t h =
    let l = lawful_within _ at os t h in record { shallow = l.shallow; sizes = l.sizes }
