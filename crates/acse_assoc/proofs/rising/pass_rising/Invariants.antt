-- What is left is passed over as the whole is.
use Rattle.std.proofs.Common.{length}
use Rattle.acse_assoc.proofs.RisingLoop.{RisingSoFar}
use Rattle.acse_assoc.proofs.rising.pass_rising.Given as goal

abbrev pub invariant-loop-left : goal.invariant-loop-left
invariant-loop-left l = RisingSoFar l.number l.from l.at l.octets l.left.least l.left.at l.left.octets.now

abbrev pub decreases-loop-left : goal.decreases-loop-left
decreases-loop-left l = length l.left.octets.now
