-- The length of the components so far; a type is deeper than its components.
use Rattle.std.proofs.Common.{◌≡◌, ◌+◌, ◌*◌, length, take}
use Rattle.ber_values.specs.Lengths.{capped}
use Rattle.mms_data.specs.Types.TypeShape.{shapes_of, shape_depth, deepest_shape}
use Rattle.mms_data.specs.Types.ShapeWritten.{components_octets}
use Rattle.mms_data.proofs.types.octets.+lengths.Given as goal

abbrev pub decreases-len_of : goal.decreases-len_of
decreases-len_of l = 2 * shape_depth l.tree.now

abbrev pub decreases-len_of_components : goal.decreases-len_of_components
decreases-len_of_components l = 2 * deepest_shape (shapes_of l.components.now) + 1

abbrev pub invariant-len_of_components-loop-component :
    goal.invariant-len_of_components-loop-component
invariant-len_of_components-loop-component l =
    l.len
    ≡ capped (length (components_octets (shapes_of (take l.component-index l.component-items))))
