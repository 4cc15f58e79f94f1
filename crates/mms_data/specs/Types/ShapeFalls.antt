-- Components are smaller than what holds them.
use Rattle.std.specs.Prelude.{◌+◌, ◌*◌, ◌≤◌, List, [], ◌∷◌}
use Rattle.std.proofs.Common.{arith}
use denote.Param.Weighed.{most}
use Rattle.mms_data.specs.Types.TypeShape.{TypeShape, shape_depth, deepest_shape, shapes_of}

-- no component is deeper than the deepest
pub most_le-deepest_shape : (ss : List TypeShape)
    → most (λ s. 2 * shape_depth s + 1) ss ≤ 2 * deepest_shape (shapes_of ss) + 1
most_le-deepest_shape [] = omega arith
most_le-deepest_shape (s ∷ ss) = omega (arith, most_le-deepest_shape ss)
