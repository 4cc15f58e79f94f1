use Rattle.conn_service.proofs.Worlds.{associated-alike, unopened-alike}
use Rattle.conn_service.proofs.laws.two_worlds_are_sent_alike.Goals as goal

pub returns-clause-association : goal.returns-clause-association
returns-clause-association c = associated-alike

pub returns-clause-early : goal.returns-clause-early
returns-clause-early c = unopened-alike
