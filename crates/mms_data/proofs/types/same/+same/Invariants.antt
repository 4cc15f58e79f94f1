-- The components so far are the same; a type is deeper than its components.
use Rattle.std.proofs.Common.{◌≡◌, ◌+◌, ◌*◌, take}
use Rattle.mms_data.specs.Types.TypeShape.{shapes_of, shape_depth, deepest_shape}
use Rattle.mms_data.proofs.types.same.+same.Given as goal

abbrev pub decreases-same_tree : goal.decreases-same_tree
decreases-same_tree l = 3 * shape_depth l.one.now

abbrev pub decreases-is_structure : goal.decreases-is_structure
decreases-is_structure l = 3 * deepest_shape (shapes_of l.components.now) + 2

abbrev pub decreases-same_components : goal.decreases-same_components
decreases-same_components l = 3 * deepest_shape (shapes_of l.one.now) + 1

abbrev pub invariant-same_components-loop-index : goal.invariant-same_components-loop-index
invariant-same_components-loop-index l = take l.index l.ones ≡ take l.index l.others
