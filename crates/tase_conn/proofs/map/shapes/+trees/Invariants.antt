-- The copies so far are the components so far; a type is deeper than its components.
use Rattle.std.proofs.Common.{◌≡◌, ◌+◌, ◌*◌, take}
use Rattle.mms_data.specs.Types.TypeShape.{shapes_of, shape_depth, deepest_shape}
use Rattle.tase_conn.proofs.map.shapes.+trees.Given as goal

abbrev pub decreases-tree_of : goal.decreases-tree_of
decreases-tree_of l = 2 * shape_depth l.tree.now

abbrev pub decreases-components_of : goal.decreases-components_of
decreases-components_of l = 2 * deepest_shape (shapes_of l.components.now) + 1

abbrev pub invariant-components_of-loop-component : goal.invariant-components_of-loop-component
invariant-components_of-loop-component l = l.copies ≡ take l.component-index l.component-items
