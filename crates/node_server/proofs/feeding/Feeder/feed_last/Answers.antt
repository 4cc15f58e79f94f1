use Rattle.std.proofs.Common.{◌≡◌, [], true, Some, None, subst}
use Rattle.bilateral.specs.Rows.{CentreRows}
use Rattle.node_server.specs.FeedReading.{yet_fed, says_then, MayBeSaid}
use Rattle.node_server.specs.Feeding.{says_all}
use Rattle.node_server.specs.declared.feed_end.FeedEnd.TheVariants.{Ended, Memory}
use Rattle.node_server.proofs.Fed.{octets-all}
use Rattle.node_server.proofs.FedOnce.{last-fed, last-no-fault, octet-lost}
use Rattle.node_server.proofs.feeding.Feeder.feed_last.Goals as goal

pub returns-in-Some-clause-feeds : goal.returns-in-Some-clause-feeds
returns-in-Some-clause-feeds g c = last-fed c.args.self.now.shared.now.setup c.args.seat.now
    c.act.new.seat.front c.args.reader.now c.in-Ok.says (Some c.in-Some.end)
    (subst (λ (rows : CentreRows). yet_fed rows true c.args.reader.now []
    ≡ says_then c.in-Ok.says (says_all [] Ended)) c.requires.centre c.in-Ok.ensures.says)
    (subst (λ (rows : CentreRows). MayBeSaid rows c.in-Ok.says) c.requires.centre
    c.in-Ok.ensures.may) c.in-Some.ensures.acts

pub returns-in-Some-clause-fault : goal.returns-in-Some-clause-fault
returns-in-Some-clause-fault g c = last-no-fault c.args.self.now.shared.now.setup c.args.seat.now
    c.act.new.seat.front c.in-Ok.says (Some c.in-Some.end)
    (subst (λ (rows : CentreRows). MayBeSaid rows c.in-Ok.says) c.requires.centre
    c.in-Ok.ensures.may) c.in-Some.ensures.acts

pub returns-in-None-clause-feeds : goal.returns-in-None-clause-feeds
returns-in-None-clause-feeds g c = last-fed c.args.self.now.shared.now.setup c.args.seat.now
    c.act.new.seat.front c.args.reader.now c.in-Ok.says None
    (subst (λ (rows : CentreRows). yet_fed rows true c.args.reader.now []
    ≡ says_then c.in-Ok.says (says_all [] Ended)) c.requires.centre c.in-Ok.ensures.says)
    (subst (λ (rows : CentreRows). MayBeSaid rows c.in-Ok.says) c.requires.centre
    c.in-Ok.ensures.may) c.in-None.ensures.acts

pub returns-in-Err-clause-feeds : goal.returns-in-Err-clause-feeds
returns-in-Err-clause-feeds g c = octets-all c.args.self.now.shared.now.setup c.args.seat.now
    c.args.seat.now.front c.args.reader.now c.args.reader.now [] Memory
    (octet-lost c.args.self.now.shared.now.setup c.args.seat.now c.args.reader.now
    c.args.reader.now [])
