use Rattle.tase_views.proofs.NothingMade.{nothing_pending}
use Rattle.tase_views.proofs.laws.nothing_is_made_without_offers.Goals as goal

pub returns : goal.returns
returns c = nothing_pending
