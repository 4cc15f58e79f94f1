-- The offers so far, and what is still read of them.
use Rattle.std.proofs.Common.{length}
use Rattle.ber_values.specs.Lists.{count_in}
use Rattle.presentation_profile.specs.declared.offers.TheConstants.{MOST_OFFERS}
use Rattle.presentation_profile.specs.Offers.{offer}
use Rattle.ber_values.proofs.Counted.{CountedSoFar}
use Rattle.presentation_profile.proofs.offers.offers_in.Given as goal

abbrev pub invariant-loop-rest : goal.invariant-loop-rest
invariant-loop-rest l = CountedSoFar offer 1 MOST_OFFERS l.offered l.at l.rest ((count_in 1 MOST_OFFERS offer).reading l.part.head l.part.contents.now)

abbrev pub decreases-loop-rest : goal.decreases-loop-rest
decreases-loop-rest l = length l.rest
