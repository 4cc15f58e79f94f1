use Rattle.std.proofs.Common.{is_some, ap}
use Rattle.node_core.proofs.objects.naming.is_object.Goals as goal

pub returns-in-Some : goal.returns-in-Some
returns-in-Some c = ap is_some c.in-Some.ensures.named

pub returns-in-None : goal.returns-in-None
returns-in-None c = ap is_some c.in-None.ensures.named
