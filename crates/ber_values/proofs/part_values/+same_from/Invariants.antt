-- Octets are compared up to their end.
use Rattle.std.proofs.Common.{length}
use Rattle.ber_values.proofs.part_values.+same_from.Given as goal

abbrev pub decreases-same_from : goal.decreases-same_from
decreases-same_from l = length l.octets.now
