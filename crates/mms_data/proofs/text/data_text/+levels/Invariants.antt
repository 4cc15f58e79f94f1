-- The members so far, a comma behind each, stand before what is still to be read.
use Rattle.std.proofs.Common.{◌+◌, ◌*◌, length}
use Rattle.mms_data.proofs.OfText.TextLevels.{SoFar}
use Rattle.mms_data.proofs.text.data_text.+levels.Given as goal

abbrev pub decreases-datum_at : goal.decreases-datum_at
decreases-datum_at l = 2 * l.levels

abbrev pub decreases-members_at : goal.decreases-members_at
decreases-members_at l = 2 * l.levels + 1

abbrev pub invariant-members_at-loop-members : goal.invariant-members_at-loop-members
invariant-members_at-loop-members l = SoFar l.levels l.close l.text l.members l.rest

abbrev pub decreases-members_at-loop-members : goal.decreases-members_at-loop-members
decreases-members_at-loop-members l = length l.rest
