use Rattle.std.proofs.Common.{None, Some, Ok, Err, refl}
use Rattle.node_server.proofs.Ticked.{taken_so, refused_so}
use Rattle.node_server.proofs.FedOnce.{feed-fault, asked}
use Rattle.node_server.proofs.feeding.Feeder.ask.Goals as goal

pub end_of_feed-requires : goal.end_of_feed-requires
end_of_feed-requires g c = feed-fault c.args.self.now.shared.now.setup c.args.seat.now c.args.event
    c.in-Some.fault c.call_node.new.seat.front c.requires.may
    (refused_so c.args.self.now.shared.now.setup c.args.seat.now c.args.event
    c.call_node.new.seat.front c.in-Some.fault c.in-Some.ensures.asks)

pub returns-in-None-clause-acts : goal.returns-in-None-clause-acts
returns-in-None-clause-acts g c =
    let taken = taken_so c.args.self.now.shared.now.setup c.args.seat.now c.args.event
    c.call_node.new.seat.front c.in-None.ensures.asks in
    asked c.args.self.now.shared.now.setup c.args.seat.now c.args.event (Ok taken.0)
    c.call_node.new.seat.front None taken.1 refl

pub returns-in-Some-clause-acts : goal.returns-in-Some-clause-acts
returns-in-Some-clause-acts g c = asked c.args.self.now.shared.now.setup c.args.seat.now
    c.args.event (Err c.in-Some.fault) c.call_node.new.seat.front (Some c.end_of_feed.result)
    (refused_so c.args.self.now.shared.now.setup c.args.seat.now c.args.event
    c.call_node.new.seat.front c.in-Some.fault c.in-Some.ensures.asks) c.end_of_feed.ensures
