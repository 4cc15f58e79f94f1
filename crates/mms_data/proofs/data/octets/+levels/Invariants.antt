-- The members so far, and what is still read of them.
use Rattle.std.proofs.Common.{◌+◌, ◌*◌, length}
use Rattle.ber_values.specs.Lists.{list_in}
use Rattle.ber_values.proofs.Lists.{MembersSoFar}
use Rattle.mms_data.specs.DataOctets.{datum_within}
use Rattle.mms_data.proofs.data.octets.+levels.Given as goal

abbrev pub decreases-datum_at : goal.decreases-datum_at
decreases-datum_at l = 3 * l.levels

abbrev pub decreases-members_of : goal.decreases-members_of
decreases-members_of l = 3 * l.levels + 1

abbrev pub decreases-array_at : goal.decreases-array_at
decreases-array_at l = 3 * l.levels + 2

abbrev pub decreases-structure_at : goal.decreases-structure_at
decreases-structure_at l = 3 * l.levels + 2

abbrev pub invariant-members_of-loop-rest : goal.invariant-members_of-loop-rest
invariant-members_of-loop-rest l = MembersSoFar (datum_within l.levels) 0 (length l.part.contents.now) l.members l.at l.rest ((list_in 0 (datum_within l.levels)).reading l.part.head l.part.contents.now)

abbrev pub decreases-members_of-loop-rest : goal.decreases-members_of-loop-rest
decreases-members_of-loop-rest l = length l.rest
