use Rattle.node_server.proofs.OfLinks.LeftClosed.{fresh_serves}
use Rattle.node_server.proofs.links.laws.fresh_seats_serve.Goals as goal

pub returns : goal.returns
returns c = fresh_serves
