-- The components so far are written; a type is deeper than its components.
use Rattle.std.proofs.Common.{◌≡◌, ◌+◌, ◌*◌, ◌++◌, take}
use Rattle.mms_data.specs.Types.TypeShape.{shapes_of, shape_depth, deepest_shape}
use Rattle.mms_data.specs.Types.ShapeTexts.{components_text}
use Rattle.mms_data.proofs.types.spelling.+depth.Given as goal

abbrev pub decreases-spell : goal.decreases-spell
decreases-spell l = 2 * shape_depth l.tree.now

abbrev pub decreases-spell_components : goal.decreases-spell_components
decreases-spell_components l = 2 * deepest_shape (shapes_of l.components.now) + 1

abbrev pub invariant-spell_components-loop-index : goal.invariant-spell_components-loop-index
invariant-spell_components-loop-index l =
    l.out.items ≡ l.fn.out.items ++ components_text (shapes_of (take l.index l.components))
