-- The components so far, and what is still read of them.
use Rattle.std.proofs.Common.{◌+◌, ◌*◌, length}
use Rattle.ber_values.specs.Lists.{list_in}
use Rattle.ber_values.proofs.Lists.{MembersSoFar}
use Rattle.mms_data.specs.Types.ShapeOctets.{component_in, shape_within}
use Rattle.mms_data.proofs.types.octets.+levels.Given as goal

abbrev pub decreases-shape_at : goal.decreases-shape_at
decreases-shape_at l = 6 * l.levels

abbrev pub decreases-sole_at : goal.decreases-sole_at
decreases-sole_at l = 6 * l.levels + 1

abbrev pub decreases-component_of : goal.decreases-component_of
decreases-component_of l = 6 * l.levels + 2

abbrev pub decreases-component_at : goal.decreases-component_at
decreases-component_at l = 6 * l.levels + 3

abbrev pub decreases-components_of : goal.decreases-components_of
decreases-components_of l = 6 * l.levels + 4

abbrev pub decreases-structure_of : goal.decreases-structure_of
decreases-structure_of l = 6 * l.levels + 5

abbrev pub invariant-components_of-loop-rest : goal.invariant-components_of-loop-rest
invariant-components_of-loop-rest l =
    let g = component_in (shape_within l.levels) in
    MembersSoFar g 0 (length l.part.contents.now) l.components l.at l.rest
    ((list_in 0 g).reading l.part.head l.part.contents.now)

abbrev pub decreases-components_of-loop-rest : goal.decreases-components_of-loop-rest
decreases-components_of-loop-rest l = length l.rest
