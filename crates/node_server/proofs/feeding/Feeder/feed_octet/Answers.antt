use Rattle.std.proofs.Common.{[], ◌∷◌, subst}
use Rattle.bilateral.specs.Rows.{CentreRows}
use Rattle.node_server.specs.FeedReading.{TakesOctet, MayBeSaid}
use Rattle.node_server.proofs.FedOnce.{octet-fed, octet-lost}
use Rattle.node_server.proofs.feeding.Feeder.feed_octet.Goals as goal

pub returns-in-Ok-clause-feeds : goal.returns-in-Ok-clause-feeds
returns-in-Ok-clause-feeds g c = octet-fed c.args.self.now.shared.now.setup c.args.seat.now
    c.act.new.seat.front c.args.reader.now c.take.new.self c.args.octet c.in-Ok.says c.act.result
    (subst (λ (rows : CentreRows). TakesOctet rows c.args.reader.now c.args.octet c.take.new.self
    c.in-Ok.says) c.requires.centre c.in-Ok.ensures.says)
    (subst (λ (rows : CentreRows). MayBeSaid rows c.in-Ok.says) c.requires.centre
    c.in-Ok.ensures.may) c.act.ensures.acts

pub returns-in-Err-clause-feeds : goal.returns-in-Err-clause-feeds
returns-in-Err-clause-feeds g c = octet-lost c.args.self.now.shared.now.setup c.args.seat.now
    c.args.reader.now c.take.new.self (c.args.octet ∷ [])
