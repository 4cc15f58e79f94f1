-- Types are spelled by their written form, whatever follows it.
use Rattle.std.proofs.Common.{◌≡◌, ℕ, zero, suc, ◌+◌, ◌^◌, ◌≤◌, ◌<◌, leb, true, List, [], ◌∷◌}
use Rattle.std.proofs.Common.{◌++◌, length, false, eqb, None, ℤ, pos, neg_ℤ, nat_abs, refl, sym}
use Rattle.std.proofs.Common.{ap, ◌∙◌, subst, arith}
use Rattle.std.proofs.lemmas.Bool.{and_from, le-leb}
use Rattle.std.proofs.lemmas.List.{length-append}
use Rattle.std.proofs.lemmas.Int.{ints}
use Rattle.std.specs.Int.{w64}
use Rattle.std.specs.Int.RustNames.{FitsSigned}
use Rattle.ber_values.specs.Grammars.{Grammar, taken, has_tag, map_in, then_in}
use Rattle.ber_values.specs.Parts.{Contents, part_in, contents_as, contents_where, all_in}
use Rattle.ber_values.specs.Lists.{BeginsList, list_in}
use Rattle.ber_values.specs.Leaves.{integer, unsigned, unsigned_within, fixed, raw}
use Rattle.ber_values.specs.Writing.{written, length_octets, integer_octets}
use Rattle.ber_values.proofs.Written.{integer_spelled}
use Rattle.ber_values.proofs.Pieces.{contents-few}
use Rattle.ber_values.proofs.Grammars.{part-written, choose-written, choose-other}
use Rattle.ber_values.proofs.WrittenParts.{Ends, ends_of, then-ends, part-writes}
use Rattle.ber_values.proofs.WrittenParts.{all-spelled, maybe-none}
use Rattle.mms_data.specs.Types.TypeShape.{TypeShape, bool_shape, bits_shape, int_shape}
use Rattle.mms_data.specs.Types.TypeShape.{uint_shape, real_shape, text_shape, structure_shape}
use Rattle.mms_data.specs.Types.TypeShape.{TypeShapes, no_shapes, shapes, shapes_of, shape_depth}
use Rattle.mms_data.specs.Types.TypeShape.{deepest_shape, is_shape_size, IsShapeSize, KeepsSizes}
use Rattle.mms_data.specs.Types.TypeShape.{KeepAllSizes, IsTypeShape}
use Rattle.mms_data.specs.Types.ShapeOctets.{shape_size, signed_size, real_parts, plain_shape}
use Rattle.mms_data.specs.Types.ShapeOctets.{passed_once, marked_in, structured, component_in}
use Rattle.mms_data.specs.Types.ShapeOctets.{shape_within, one_shape, sole_shape}
use Rattle.mms_data.specs.Types.ShapeWritten.{real_parts_octets, shape_octets, components_octets}

-- ---- the parts of a shape

size_passes : (n : ℕ) → IsShapeSize n → is_shape_size n ≡ true
size_passes n h = and_from (leb 1 n) (leb n 255) (le-leb 1 n h.0) (le-leb n 255 h.1)

fits_size : (n : ℕ) → IsShapeSize n → FitsSigned w64 (pos n)
fits_size n h = omega (arith, ints, h)

fits_negated : (n : ℕ) → IsShapeSize n → FitsSigned w64 (neg_ℤ (pos n))
fits_negated zero h = absurd (omega (arith, h))
fits_negated (suc n) h = omega (arith, ints, h)

abs_negated : (n : ℕ) → nat_abs (neg_ℤ (pos n)) ≡ n
abs_negated zero = refl
abs_negated (suc n) = refl

size_spelled : (at n : ℕ) → IsShapeSize n → shape_size.spells at n (integer_octets (pos n))
unfolding shape_size unsigned_within contents_where unsigned
size_spelled at n h =
    (n, (integer_spelled (pos n) (fits_size n h), omega (arith, h)), (size_passes n h, refl))

signed_spelled : (at n : ℕ) (z : ℤ) → nat_abs z ≡ n → IsShapeSize n → FitsSigned w64 z
    → signed_size.spells at n (integer_octets z)
unfolding signed_size contents_as contents_where integer
signed_spelled at n z abs h fits =
    let test : is_shape_size (nat_abs z) ≡ true = ap is_shape_size abs ∙ size_passes n h in
    (z, (z, integer_spelled z fits, (test, refl)), sym abs)

fixed_spelled : (at : ℕ) (os : List ℕ) → (fixed os).spells at tt os
unfolding fixed
fixed_spelled at os = refl

real_spelled : (at : ℕ) → real_parts.spells at tt real_parts_octets
unfolding real_parts real_parts_octets
real_spelled at =
    let one : List ℕ = written 2 (32 ∷ []) in
    let two : List ℕ = written 2 (8 ∷ []) in
    let next = at + length one in
    all-spelled _ at tt (one ++ two)
    (then-ends (part_in 2 (fixed (32 ∷ []))) (λ u. part_in 2 (fixed (8 ∷ []))) at tt one tt two
    (part-writes 2 (fixed (32 ∷ [])) at tt (32 ∷ []) (omega arith) (fixed_spelled _ (32 ∷ [])))
    (ends_of (part_in 2 (fixed (8 ∷ []))) next tt two
    (part-writes 2 (fixed (8 ∷ [])) next tt (8 ∷ []) (omega arith) (fixed_spelled _ (8 ∷ [])))))

-- ---- an element that may stand behind one that is passed over, and doesn't

pub none_before : (tag at : ℕ) (octets : List ℕ) → has_tag tag octets ≡ false
    → (passed_once tag).begins at octets (taken tt at octets)
unfolding passed_once map_in
none_before tag at octets other = (taken None at octets, maybe-none tag raw at octets other, refl)

pub behind_passed : {X : Type 0} (passed tag at : ℕ) (g : Grammar X) (x : X) (contents : List ℕ)
    → eqb tag passed ≡ false → Ends g at x (written tag contents)
    → Ends (then_in (passed_once passed) (λ u. g)) at x (written tag contents)
unfolding then_in
behind_passed passed tag at g x contents other ends =
    let octets = written tag contents in
    (taken tt at octets, none_before passed at octets other, ends)

marked_spelled : {X : Type 0} (at : ℕ) (c : Contents X) (x : X) (contents : List ℕ)
    → length contents < 2 ^ 32
    → c.spells (at + 1 + length (length_octets (length contents))) x contents
    → (marked_in c).spells at x (written 161 contents)
unfolding marked_in
marked_spelled at c x contents few spelled =
    all-spelled _ at x (written 161 contents)
    (behind_passed 128 161 at (part_in 161 c) x contents refl
    (ends_of (part_in 161 c) at x (written 161 contents)
    (part-writes 161 c at x contents few spelled)))

-- ---- components as a list

list_of_shapes : TypeShapes → List TypeShape
list_of_shapes no_shapes = []
list_of_shapes (shapes s ss) = s ∷ list_of_shapes ss

shapes_of-list : (ss : TypeShapes) → shapes_of (list_of_shapes ss) ≡ ss
unfolding list_of_shapes
shapes_of-list no_shapes = refl
shapes_of-list (shapes s ss) = ap (shapes s) (shapes_of-list ss)

abbrev component_octets : TypeShape → List ℕ
component_octets s = written 48 (written 161 (shape_octets s))

-- components, each of which is spelled by its written form, are spelled one after another
abbrev AllBegin : ℕ → TypeShapes → Type 0
AllBegin n no_shapes = Unit {0}
AllBegin n (shapes s ss) = ((at : ℕ) (rest : List ℕ)
    → (component_in (shape_within n)).begins at (component_octets s ++ rest)
    (taken s (at + length (component_octets s)) rest)) × AllBegin n ss

not_empty : (x : ℕ) (xs : List ℕ) → x ∷ xs ≡ [] → ⊥
not_empty x xs e = cc

components_begin : (n at : ℕ) (ss : TypeShapes) → AllBegin n ss
    → BeginsList (component_in (shape_within n)) at (components_octets ss) (list_of_shapes ss)
    (at + length (components_octets ss)) []
unfolding list_of_shapes
components_begin n at no_shapes each = (omega arith, refl)
components_begin n at (shapes s ss) each =
    let next = at + length (component_octets s) in
    let ends : next + length (components_octets ss)
    ≡ at + length (component_octets s ++ components_octets ss) =
    omega (arith, length-append (component_octets s) (components_octets ss)) in (
      taken s next (components_octets ss),
      not_empty 48 _,
      each.0 at (components_octets ss),
      refl,
      subst
          (λ (k : ℕ). BeginsList (component_in (shape_within n)) next (components_octets ss)
          (list_of_shapes ss) k [])
          ends (components_begin n next ss each.1),
    )

components_few : (ss : TypeShapes) → length (list_of_shapes ss) ≤ length (components_octets ss)
unfolding list_of_shapes
components_few no_shapes = omega arith
components_few (shapes s ss) =
    omega (arith, components_few ss, length-append (component_octets s) (components_octets ss))

structure_spelled : (n at : ℕ) (ss : TypeShapes) → AllBegin n ss
    → (contents_as structured (list_in 0 (component_in (shape_within n)))).spells at
    (structure_shape ss) (components_octets ss)
unfolding contents_as list_in
structure_spelled n at ss each = (
  list_of_shapes ss,
  record {
    end = at + length (components_octets ss);
    spelled = components_begin n at ss each;
    enough = omega arith;
    few = components_few ss;
  },
  ap structure_shape (sym (shapes_of-list ss)),
)

some_depth : (s : TypeShape) → 0 < shape_depth s
some_depth bool_shape = omega arith
some_depth (bits_shape n) = omega arith
some_depth (int_shape n) = omega arith
some_depth (uint_shape n) = omega arith
some_depth real_shape = omega arith
some_depth (text_shape n) = omega arith
some_depth (structure_shape ss) = omega arith

one_component : (n : ℕ) (s : TypeShape) → length (component_octets s) < 2 ^ 32
    → ((at : ℕ) (rest : List ℕ) → (shape_within n).begins at (shape_octets s ++ rest)
    (taken s (at + length (shape_octets s)) rest))
    → (at : ℕ) (rest : List ℕ) → (component_in (shape_within n)).begins at
    (component_octets s ++ rest) (taken s (at + length (component_octets s)) rest)
unfolding component_in
one_component n s few each at rest =
    let inner = written 161 (shape_octets s) in
    let less = contents-few 48 inner few in
    part-written 48 (marked_in (all_in (shape_within n))) at s inner rest less
    (marked_spelled _ (all_in (shape_within n)) s (shape_octets s)
    (contents-few 161 (shape_octets s) less)
    (all-spelled (shape_within n) _ s (shape_octets s)
    (ends_of (shape_within n) _ s (shape_octets s) (each _))))

size_few : (tag n : ℕ) (z : ℤ) → length (written tag (integer_octets z)) < 2 ^ 32
    → length (integer_octets z) < 2 ^ 32
size_few tag n z few = contents-few tag (integer_octets z) few

mutual
  unfolding shape_within plain_shape contents_as

  pub shape_begins : (n : ℕ) (s : TypeShape) → shape_depth s ≤ n → KeepsSizes s
      → length (shape_octets s) < 2 ^ 32 → (at : ℕ) (rest : List ℕ)
      → (shape_within n).begins at (shape_octets s ++ rest)
      (taken s (at + length (shape_octets s)) rest)
  shape_begins zero s shallow sizes few at rest = absurd (omega (arith, shallow, some_depth s))
  shape_begins (suc n) bool_shape shallow sizes few at rest =
      choose-other 162 _ _ at _ _ refl
      (choose-written 131 _ _ at bool_shape [] rest (omega arith) (tt, fixed_spelled _ [], refl))
  shape_begins (suc n) (bits_shape k) shallow sizes few at rest =
      choose-other 162 _ _ at _ _ refl (choose-other 131 _ _ at _ _ refl
      (choose-written 132 _ _ at (bits_shape k) (integer_octets (pos k)) rest
      (contents-few 132 (integer_octets (pos k)) few)
      (k, signed_spelled _ k (pos k) refl sizes (fits_size k sizes), refl)))
  shape_begins (suc n) (int_shape k) shallow sizes few at rest =
      choose-other 162 _ _ at _ _ refl (choose-other 131 _ _ at _ _ refl
      (choose-other 132 _ _ at _ _ refl
      (choose-written 133 _ _ at (int_shape k) (integer_octets (pos k)) rest
      (contents-few 133 (integer_octets (pos k)) few) (k, size_spelled _ k sizes, refl))))
  shape_begins (suc n) (uint_shape k) shallow sizes few at rest =
      choose-other 162 _ _ at _ _ refl (choose-other 131 _ _ at _ _ refl
      (choose-other 132 _ _ at _ _ refl (choose-other 133 _ _ at _ _ refl
      (choose-written 134 _ _ at (uint_shape k) (integer_octets (pos k)) rest
      (contents-few 134 (integer_octets (pos k)) few) (k, size_spelled _ k sizes, refl)))))
  shape_begins (suc n) real_shape shallow sizes few at rest =
      choose-other 162 _ _ at _ _ refl (choose-other 131 _ _ at _ _ refl
      (choose-other 132 _ _ at _ _ refl (choose-other 133 _ _ at _ _ refl
      (choose-other 134 _ _ at _ _ refl
      (choose-written 167 _ _ at real_shape real_parts_octets rest
      (contents-few 167 real_parts_octets few) (tt, real_spelled _, refl))))))
  shape_begins (suc n) (text_shape k) shallow sizes few at rest =
      choose-other 162 _ _ at _ _ refl (choose-other 131 _ _ at _ _ refl
      (choose-other 132 _ _ at _ _ refl (choose-other 133 _ _ at _ _ refl
      (choose-other 134 _ _ at _ _ refl (choose-other 167 _ _ at _ _ refl
      (choose-written 138 _ _ at (text_shape k) (integer_octets (neg_ℤ (pos k))) rest
      (contents-few 138 (integer_octets (neg_ℤ (pos k))) few) (
        k,
        signed_spelled _ k (neg_ℤ (pos k)) (abs_negated k) sizes (fits_negated k sizes),
        refl,
      )))))))
  shape_begins (suc n) (structure_shape ss) shallow sizes few at rest =
      let inner = components_octets ss in
      let less = contents-few 162 (written 161 inner) few in
      let least = contents-few 161 inner less in
      choose-written 162 _ _ at (structure_shape ss) (written 161 inner) rest less
      (marked_spelled _ _ (structure_shape ss) inner least
      (structure_spelled n _ ss (all_begin n ss (omega (arith, shallow)) sizes least)))

  all_begin : (n : ℕ) (ss : TypeShapes) → deepest_shape ss ≤ n → KeepAllSizes ss
      → length (components_octets ss) < 2 ^ 32 → AllBegin n ss
  all_begin n no_shapes shallow sizes few = tt
  all_begin n (shapes s ss) shallow sizes few =
      let len = length-append (component_octets s) (components_octets ss) in
      let first : length (component_octets s) < 2 ^ 32 = omega (arith, few, len) in
      let inner = contents-few 161 (shape_octets s)
      (contents-few 48 (written 161 (shape_octets s)) first) in (
        one_component n s first
            (λ at rest. shape_begins n s (omega (arith, shallow)) sizes.0 inner at rest),
        all_begin n ss (omega (arith, shallow)) sizes.1 (omega (arith, few, len)),
      )

-- what is written for a type begins what follows it
pub one_shape_begins : (s : TypeShape) → IsTypeShape s → length (shape_octets s) < 2 ^ 32
    → (at : ℕ) (rest : List ℕ) → one_shape.begins at (shape_octets s ++ rest)
    (taken s (at + length (shape_octets s)) rest)
unfolding one_shape
one_shape_begins s lawful few at rest =
    shape_begins _ s lawful.shallow lawful.sizes few at rest

pub sole_shape_spelled : (at : ℕ) (s : TypeShape) → IsTypeShape s → length (shape_octets s) < 2 ^ 32
    → sole_shape.spells at s (shape_octets s)
unfolding sole_shape
sole_shape_spelled at s lawful few =
    all-spelled one_shape at s (shape_octets s)
    (ends_of one_shape at s (shape_octets s) (one_shape_begins s lawful few at))
