-- The octets that are left, and what is still passed over.
use Rattle.std.proofs.Common.{length}
use Rattle.ber_values.specs.Passing.{skip, is_other}
use Rattle.ber_values.proofs.Passed.{PassedSoFar}
use Rattle.ber_values.proofs.passing.skip_parts.Given as goal

abbrev pub invariant-loop-rest : goal.invariant-loop-rest
invariant-loop-rest l = PassedSoFar skip (is_other l.low l.high l.named) l.at l.octets l.place l.rest

abbrev pub decreases-loop-rest : goal.decreases-loop-rest
decreases-loop-rest l = length l.rest
