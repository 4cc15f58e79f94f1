use Rattle.node_server.specs.Turn.Logged.{turn_log}
use Rattle.server_main.proofs.OfRun.Joined.{closes-over}
use Rattle.server_main.proofs.run.gathering.Gatherer.close.Goals as goal

pub returns-clause-over : goal.returns-clause-over
returns-clause-over g c = λ own claims gathers.
    closes-over c.args.self.now.shared.now own c.args.seat claims
    (turn_log c.close-node.result.node.history) gathers (record {
      keeps = c.close-node.ensures.all;
      differ = c.close-node.ensures.differ;
      no_other = c.close-node.ensures.no_other;
    })
