use Rattle.tase_views.proofs.TypedObjects.{named_typed}
use Rattle.tase_views.proofs.laws.types_may_be_told.Goals as goal

pub returns : goal.returns
returns c = named_typed
