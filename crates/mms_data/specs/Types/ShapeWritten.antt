-- The written form of the type of a variable: the shortest lengths and integers. A number of bits
-- is said to be all of them, and one of octets of text the most.
use Rattle.std.specs.Prelude.{ℕ, List, [], ◌∷◌, ◌++◌, length, pos, neg_ℤ}
use Rattle.ber_values.specs.Lengths.{capped}
use Rattle.ber_values.specs.Writing.{written, integer_octets}
use Rattle.mms_data.specs.Types.TypeShape.{TypeShape, bool_shape, bits_shape, int_shape}
use Rattle.mms_data.specs.Types.TypeShape.{uint_shape, real_shape, text_shape, structure_shape}
use Rattle.mms_data.specs.Types.TypeShape.{TypeShapes, no_shapes, shapes}

-- 32 bits, of which 8 are the exponent
unfoldable pub real_parts_octets : List ℕ
real_parts_octets = written 2 (32 ∷ []) ++ written 2 (8 ∷ [])

abbrev mutual
  pub shape_octets : TypeShape → List ℕ
  shape_octets bool_shape = written 131 []
  shape_octets (bits_shape n) = written 132 (integer_octets (pos n))
  shape_octets (int_shape n) = written 133 (integer_octets (pos n))
  shape_octets (uint_shape n) = written 134 (integer_octets (pos n))
  shape_octets real_shape = written 167 real_parts_octets
  shape_octets (text_shape n) = written 138 (integer_octets (neg_ℤ (pos n)))
  shape_octets (structure_shape ss) = written 162 (written 161 (components_octets ss))

  -- components, one after another
  pub components_octets : TypeShapes → List ℕ
  components_octets no_shapes = []
  components_octets (shapes s ss) =
      written 48 (written 161 (shape_octets s)) ++ components_octets ss

-- how many octets are written, or the most that a length is said to be
abbrev pub shape_len : TypeShape → ℕ
shape_len s = capped (length (shape_octets s))
