-- The results so far, and what is still read of them.
use Rattle.std.proofs.Common.{◌+◌, false, length}
use Rattle.ber_values.specs.Lists.{more_in}
use Rattle.ber_values.proofs.Lists.{MembersSoFar}
use Rattle.presentation_profile.specs.Results.{one_result}
use Rattle.presentation_profile.proofs.results.more_results.Given as goal

abbrev pub invariant-loop-rest : goal.invariant-loop-rest
invariant-loop-rest l = MembersSoFar (one_result false) 0 (length l.fn.results + length l.fn.octets) l.results l.at l.rest (more_in (one_result false) 0 (length l.fn.octets) l.fn.results l.fn.at l.fn.octets)

abbrev pub decreases-loop-rest : goal.decreases-loop-rest
decreases-loop-rest l = length l.rest
