use Rattle.conn_service.proofs.EndedClosed.{ended_closed}
use Rattle.conn_service.proofs.laws.ended_connections_are_closed.Goals as goal

pub returns : goal.returns
returns c = ended_closed
