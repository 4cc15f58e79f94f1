-- The names so far, and whether BER is among them.
use Rattle.std.proofs.Common.{length}
use Rattle.presentation_profile.proofs.Transfers.{NamesSoFar}
use Rattle.presentation_profile.proofs.offers.read_transfers.Given as goal

abbrev pub invariant-loop-rest : goal.invariant-loop-rest
invariant-loop-rest l = NamesSoFar l.part.head l.part.contents.now l.ber l.at l.rest

abbrev pub decreases-loop-rest : goal.decreases-loop-rest
decreases-loop-rest l = length l.rest
