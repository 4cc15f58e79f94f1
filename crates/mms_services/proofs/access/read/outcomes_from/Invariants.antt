-- The outcomes so far, and what is still read of them.
use Rattle.std.proofs.Common.{length}
use Rattle.ber_values.specs.Lists.{count_in}
use Rattle.ber_values.proofs.Counted.{CountedSoFar}
use Rattle.mms_data.specs.OutcomeOctets.{one_outcome}
use Rattle.mms_services.proofs.access.read.outcomes_from.Given as goal

abbrev pub invariant-loop-rest : goal.invariant-loop-rest
invariant-loop-rest l = CountedSoFar one_outcome l.least l.most l.outcomes l.at l.rest ((count_in l.least l.most one_outcome).reading l.part.head l.part.contents.now)

abbrev pub decreases-loop-rest : goal.decreases-loop-rest
decreases-loop-rest l = length l.rest
