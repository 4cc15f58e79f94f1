-- The variables so far, and what is still read of them.
use Rattle.std.proofs.Common.{length}
use Rattle.ber_values.proofs.Lists.{MembersSoFar}
use Rattle.mms_services.specs.Access.Specifications.{variable, variables}
use Rattle.mms_services.proofs.access.spec.variables_from.Given as goal

abbrev pub invariant-loop-rest : goal.invariant-loop-rest
invariant-loop-rest l = MembersSoFar variable 1 (length l.part.contents.now) l.names l.at l.rest (variables.reading l.part.head l.part.contents.now)

abbrev pub decreases-loop-rest : goal.decreases-loop-rest
decreases-loop-rest l = length l.rest
