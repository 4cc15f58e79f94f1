-- What a `ShapeTree` is seen as.
use Rattle.mms_data.specs.declared.types.tree.ShapeKind.{ShapeKind}
use Rattle.mms_data.specs.declared.types.tree.ShapeKind.TheVariants.{Bool, Bits, Int, Uint, Real}
use Rattle.mms_data.specs.declared.types.tree.ShapeKind.TheVariants.{Text, Structure}
use Rattle.mms_data.specs.Types.TypeShape.{TypeShape, bool_shape, bits_shape, int_shape}
use Rattle.mms_data.specs.Types.TypeShape.{uint_shape, real_shape, text_shape, structure_shape}
use Rattle.mms_data.specs.Types.TypeShape.{shapes_of}

-- the shape of a kind
abbrev pub shape_of_kind : ShapeKind → TypeShape
shape_of_kind Bool = bool_shape
shape_of_kind (Bits n) = bits_shape n
shape_of_kind (Int n) = int_shape n
shape_of_kind (Uint n) = uint_shape n
shape_of_kind Real = real_shape
shape_of_kind (Text n) = text_shape n
shape_of_kind (Structure ss) = structure_shape (shapes_of ss)
