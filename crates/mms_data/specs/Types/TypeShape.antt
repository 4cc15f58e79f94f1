-- The type of a variable as data, whatever memory holds it.
use Rattle.std.specs.Prelude.{ℕ, ◌+◌, ◌≤◌, max, Bool, ◌&&◌, nat_le, List, [], ◌∷◌}
use Rattle.mms_data.specs.declared.data.octets.TheConstants.{MOST_DEPTH}

mutual
  pub data TypeShape : Type 0 where
    bool_shape : TypeShape
    bits_shape : ℕ → TypeShape
    int_shape : ℕ → TypeShape
    uint_shape : ℕ → TypeShape
    real_shape : TypeShape
    text_shape : ℕ → TypeShape
    structure_shape : TypeShapes → TypeShape

  pub data TypeShapes : Type 0 where
    no_shapes : TypeShapes
    shapes : TypeShape → TypeShapes → TypeShapes

-- a list of shapes, as the components of a structure
abbrev pub shapes_of : List TypeShape → TypeShapes
shapes_of [] = no_shapes
shapes_of (s ∷ ss) = shapes s (shapes_of ss)

abbrev mutual
  -- how many levels a shape has: one without components, and one more than its deepest component
  pub shape_depth : TypeShape → ℕ
  shape_depth bool_shape = 1
  shape_depth (bits_shape n) = 1
  shape_depth (int_shape n) = 1
  shape_depth (uint_shape n) = 1
  shape_depth real_shape = 1
  shape_depth (text_shape n) = 1
  shape_depth (structure_shape ss) = deepest_shape ss + 1

  -- the depth of the deepest component
  pub deepest_shape : TypeShapes → ℕ
  deepest_shape no_shapes = 0
  deepest_shape (shapes s ss) = max (shape_depth s) (deepest_shape ss)

-- whether a number of bits or of octets is one that a shape may have
abbrev pub is_shape_size : ℕ → Bool
is_shape_size n = nat_le 1 n && nat_le n 255

-- such a number
abbrev pub IsShapeSize : ℕ → Type 0
IsShapeSize n = (1 ≤ n) × (n ≤ 255)

abbrev mutual
  -- each number of bits or of octets is 1 to 255
  pub KeepsSizes : TypeShape → Type 0
  KeepsSizes bool_shape = Unit {0}
  KeepsSizes (bits_shape n) = IsShapeSize n
  KeepsSizes (int_shape n) = IsShapeSize n
  KeepsSizes (uint_shape n) = IsShapeSize n
  KeepsSizes real_shape = Unit {0}
  KeepsSizes (text_shape n) = IsShapeSize n
  KeepsSizes (structure_shape ss) = KeepAllSizes ss

  -- the same of each component
  pub KeepAllSizes : TypeShapes → Type 0
  KeepAllSizes no_shapes = Unit {0}
  KeepAllSizes (shapes s ss) = KeepsSizes s × KeepAllSizes ss

-- the type of a variable: as many levels as data may have, and each number 1 to 255
pub record IsTypeShape (s : TypeShape) : Type 0 where
  pub shallow : shape_depth s ≤ MOST_DEPTH
  pub sizes : KeepsSizes s
