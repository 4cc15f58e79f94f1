use Rattle.centre_client.specs.Scripted.{scripted, title_of}
use Rattle.centre_client.proofs.WaitsOn.{same_tables}
use Rattle.centre_client.proofs.client.Client.turn.Goals as goal

pub returns-clause-rows : goal.returns-clause-rows
returns-clause-rows c =
    same_tables c.args.self.now.asking.asker.agenda c.turn.new.self.asker.agenda
    c.turn.ensures.agenda

pub returns-clause-ok : goal.returns-clause-ok
returns-clause-ok c = λ rows script octets s.
    c.turn.ensures.ok (title_of rows script) (scripted rows script) octets s
