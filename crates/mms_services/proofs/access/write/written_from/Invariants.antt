-- The results so far, and what is still read of them.
use Rattle.std.proofs.Common.{length}
use Rattle.ber_values.specs.Lists.{list_in}
use Rattle.ber_values.proofs.Lists.{MembersSoFar}
use Rattle.mms_services.specs.Access.Writes.{one_written}
use Rattle.mms_services.proofs.access.write.written_from.Given as goal

abbrev pub invariant-loop-rest : goal.invariant-loop-rest
invariant-loop-rest l = MembersSoFar one_written 0 (length l.part.contents.now) l.results l.at l.rest ((list_in 0 one_written).reading l.part.head l.part.contents.now)

abbrev pub decreases-loop-rest : goal.decreases-loop-rest
decreases-loop-rest l = length l.rest
