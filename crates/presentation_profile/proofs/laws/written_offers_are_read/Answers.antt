use Rattle.presentation_profile.proofs.OffersWritten.{offers-writes}
use Rattle.presentation_profile.proofs.laws.written_offers_are_read.Goals as goal

pub returns : goal.returns
returns c os at rest are named = offers-writes at os are named rest
