-- The components so far have been written; a type is deeper than its components.
use Rattle.std.proofs.Common.{◌≡◌, ◌+◌, ◌*◌, ◌++◌, take}
use Rattle.mms_data.specs.Types.TypeShape.{shapes_of, shape_depth, deepest_shape}
use Rattle.mms_data.specs.Types.ShapeWritten.{components_octets}
use Rattle.mms_data.proofs.types.octets.+writing.Given as goal

abbrev pub decreases-put_tree : goal.decreases-put_tree
decreases-put_tree l = 4 * shape_depth l.tree.now

abbrev pub decreases-put_structure : goal.decreases-put_structure
decreases-put_structure l = 4 * deepest_shape (shapes_of l.components.now) + 3

abbrev pub decreases-put_components : goal.decreases-put_components
decreases-put_components l = 4 * deepest_shape (shapes_of l.components.now) + 2

abbrev pub decreases-put_component : goal.decreases-put_component
decreases-put_component l = 4 * shape_depth l.tree.now + 1

abbrev pub invariant-put_components-loop-component : goal.invariant-put_components-loop-component
invariant-put_components-loop-component l =
    l.out.items
    ≡ l.initial.out.items
    ++ components_octets (shapes_of (take l.component-index l.component-items))
