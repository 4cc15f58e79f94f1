use Rattle.node_server.proofs.OfLinks.LeftClosed.{left_closed, again_closed}
use Rattle.node_server.proofs.links.laws.served_links_are_closed.Goals as goal

pub returns-clause-served : goal.returns-clause-served
returns-clause-served c = left_closed

pub returns-clause-again : goal.returns-clause-again
returns-clause-again c = again_closed
