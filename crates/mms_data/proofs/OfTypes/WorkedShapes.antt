-- The written forms and texts of types, computed, and types that octets are read as or refused.
use Rattle.std.proofs.Common.{◌≡◌, [], ◌∷◌, codes, refl}
use Rattle.std.specs.Fmt.{digits}
use Rattle.ber_values.specs.Writing.{length_octets, integer_octets}
use Rattle.mms_data.specs.Types.TypeShape.{TypeShape, bits_shape, int_shape}
use Rattle.mms_data.specs.Types.TypeShape.{uint_shape, real_shape, text_shape, structure_shape}
use Rattle.mms_data.specs.Types.TypeShape.{no_shapes, shapes}
use Rattle.mms_data.specs.Types.ShapeWritten.{real_parts_octets, shape_octets}
use Rattle.mms_data.specs.Types.ShapeTexts.{shape_text}

-- ---- what is written

bits_written : shape_octets (bits_shape 8) ≡ 132 ∷ 1 ∷ 8 ∷ []
unfolding length_octets integer_octets
bits_written = refl

all_bits_written : shape_octets (bits_shape 255) ≡ 132 ∷ 2 ∷ 0 ∷ 255 ∷ []
unfolding length_octets integer_octets
all_bits_written = refl

real_written : shape_octets real_shape ≡ 167 ∷ 6 ∷ 2 ∷ 1 ∷ 32 ∷ 2 ∷ 1 ∷ 8 ∷ []
unfolding real_parts_octets length_octets
real_written = refl

text_written : shape_octets (text_shape 64) ≡ 138 ∷ 1 ∷ 192 ∷ []
unfolding length_octets integer_octets
text_written = refl

empty_written : shape_octets (structure_shape no_shapes) ≡ 162 ∷ 2 ∷ 161 ∷ 0 ∷ []
unfolding length_octets
empty_written = refl

discrete : TypeShape
discrete = structure_shape (shapes (int_shape 32) (shapes (uint_shape 16) no_shapes))

discrete_written : shape_octets discrete
    ≡ 162 ∷ 16 ∷ 161 ∷ 14 ∷ 48 ∷ 5 ∷ 161 ∷ 3 ∷ 133 ∷ 1 ∷ 32 ∷ 48 ∷ 5 ∷ 161 ∷ 3 ∷ 134 ∷ 1 ∷ 16 ∷ []
unfolding discrete length_octets integer_octets
discrete_written = refl

-- ---- texts

discrete_text : shape_text discrete ≡ codes "{int32,uint16}"
unfolding discrete digits
discrete_text = refl

empty_text : shape_text (structure_shape no_shapes) ≡ codes "{}"
empty_text = refl

text_text : shape_text (text_shape 64) ≡ codes "text64"
unfolding digits
text_text = refl
