-- A list of components is smaller than the shape that holds it.
use Rattle.std.specs.Prelude.{◌*◌, ◌≤◌, max}
use Rattle.std.proofs.Common.{arith}
use Rattle.mms_data.specs.declared.types.tree.ShapeKind.{ShapeKind}
use Rattle.mms_data.specs.declared.types.tree.ShapeKind.TheVariants.{Bool, Bits, Int, Uint, Real}
use Rattle.mms_data.specs.declared.types.tree.ShapeKind.TheVariants.{Text, Structure}
use Rattle.mms_data.specs.declared.types.tree.ShapeList.TheDeep.{deep-ShapeKind}
use Rattle.mms_data.specs.Types.TypeShape.{shape_depth}
use Rattle.mms_data.specs.Types.ShapeOf.{shape_of_kind}

pub deep_le-shape_depth : (k : ShapeKind)
    → max (deep-ShapeKind k) 0 ≤ 2 * shape_depth (shape_of_kind k)
deep_le-shape_depth Bool = omega arith
deep_le-shape_depth (Bits n) = omega arith
deep_le-shape_depth (Int n) = omega arith
deep_le-shape_depth (Uint n) = omega arith
deep_le-shape_depth Real = omega arith
deep_le-shape_depth (Text n) = omega arith
deep_le-shape_depth (Structure ss) = omega arith
