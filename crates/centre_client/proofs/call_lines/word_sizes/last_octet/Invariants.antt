-- The octets so far end with the last one.
use Rattle.std.proofs.Common.{◌≡◌, length}
use Rattle.centre_client.specs.ValueSizes.{last_octet_in}
use Rattle.centre_client.proofs.call_lines.word_sizes.last_octet.Given as goal

abbrev pub invariant-loop-rest : goal.invariant-loop-rest
invariant-loop-rest l = last_octet_in 0 l.word ≡ last_octet_in l.last l.rest

abbrev pub decreases-loop-rest : goal.decreases-loop-rest
decreases-loop-rest l = length l.rest
