use Rattle.std.proofs.Common.{Some, sym, subst}
use Rattle.node_server.specs.FeedReading.{MayBeSaid}
use Rattle.node_server.specs.Feeding.{ActsOn}
use Rattle.node_server.specs.declared.feed_reader.FeedSays.{FeedSays}
use Rattle.node_server.proofs.FedOnce.{ended-so}
use Rattle.node_server.proofs.feeding.Feeder.act.Goals as goal

pub returns-in-Ends-clause-acts : goal.returns-in-Ends-clause-acts
returns-in-Ends-clause-acts g c = subst (λ (says : FeedSays). ActsOn
    c.args.self.now.shared.now.setup c.args.seat.now c.args.seat.now.front says
    (Some c.in-Ends.end)) (sym c.in-Ends.is)
    (ended-so c.args.self.now.shared.now.setup c.args.seat.now c.in-Ends.end
    (subst (MayBeSaid c.args.self.now.shared.now.setup.centre) c.in-Ends.is c.requires.may))
