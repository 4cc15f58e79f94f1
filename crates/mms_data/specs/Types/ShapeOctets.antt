-- Types of variables as octets (ISO 9506-2, TypeSpecification, in the profile of this project): by
-- levels, since components of a structure have types again.
use Rattle.std.specs.Prelude.{ℕ, zero, suc, nat_abs, List, [], ◌∷◌}
use Rattle.ber_values.specs.Grammars.{Grammar, then_in, map_in, refused}
use Rattle.ber_values.specs.Parts.{Contents, part_in, choose_in, maybe_in, contents_as}
use Rattle.ber_values.specs.Parts.{contents_where, all_in}
use Rattle.ber_values.specs.Lists.{list_in}
use Rattle.ber_values.specs.Leaves.{integer, unsigned_within, raw, fixed}
use Rattle.mms_data.specs.declared.data.octets.TheConstants.{MOST_DEPTH}
use Rattle.mms_data.specs.Types.TypeShape.{TypeShape, bool_shape, bits_shape, int_shape}
use Rattle.mms_data.specs.Types.TypeShape.{uint_shape, real_shape, text_shape, structure_shape}
use Rattle.mms_data.specs.Types.TypeShape.{shapes_of, is_shape_size}

-- a number of bits of an integer: 1 to 255
unfoldable pub shape_size : Contents ℕ
shape_size = unsigned_within 1 255

-- a number of bits or of octets with either sign: of bits or of text it says whether there may be
-- fewer
unfoldable pub signed_size : Contents ℕ
signed_size = contents_as nat_abs (contents_where (λ z. is_shape_size (nat_abs z)) integer)

-- 32 bits, of which 8 are the exponent
unfoldable pub real_parts : Contents (Unit {0})
real_parts = all_in
    (then_in (part_in 2 (fixed (32 ∷ []))) (λ u. part_in 2 (fixed (8 ∷ []))))

-- the type of a variable without components
unfoldable pub plain_shape : Grammar TypeShape
plain_shape =
    choose_in 131 (contents_as (λ u. bool_shape) (fixed []))
    (choose_in 132 (contents_as bits_shape signed_size)
    (choose_in 133 (contents_as int_shape shape_size)
    (choose_in 134 (contents_as uint_shape shape_size)
    (choose_in 167 (contents_as (λ u. real_shape) real_parts)
    (choose_in 138 (contents_as text_shape signed_size)
    refused)))))

-- an element of this tag, if there is one, whatever its contents
unfoldable pub passed_once : ℕ → Grammar (Unit {0})
passed_once tag = map_in (λ element. tt) (maybe_in tag raw)

-- contents that are an element of the tag A1, before which a mark 80 may stand: that a structure is
-- packed, or the name of a component
unfoldable pub marked_in : {X : Type 0} → Contents X → Contents X
marked_in c = all_in (then_in (passed_once 128) (λ u. part_in 161 c))

abbrev pub structured : List TypeShape → TypeShape
structured ss = structure_shape (shapes_of ss)

-- the type of a component of a structure
unfoldable pub component_in : Grammar TypeShape → Grammar TypeShape
component_in g = part_in 48 (marked_in (all_in g))

-- the type of a structure of such components
abbrev pub structure_in : Grammar TypeShape → Contents TypeShape
structure_in g = contents_as structured (list_in 0 g)

-- a type of at most so many levels; where none is left nothing may stand
unfoldable pub shape_within : ℕ → Grammar TypeShape
shape_within zero = refused
shape_within (suc n) =
    choose_in 162 (marked_in (structure_in (component_in (shape_within n)))) plain_shape

-- the type of a variable
unfoldable pub one_shape : Grammar TypeShape
one_shape = shape_within MOST_DEPTH

-- the type of a variable, alone
unfoldable pub sole_shape : Contents TypeShape
sole_shape = all_in one_shape
