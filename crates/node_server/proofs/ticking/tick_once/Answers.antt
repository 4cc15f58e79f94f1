use Rattle.std.proofs.Common.{None, Ok, Err, refl}
use Rattle.node_server.proofs.Ticked.{tick-told, tick-fault, taken_so, refused_so}
use Rattle.node_server.proofs.ticking.tick_once.Goals as goal

pub end_of_ticks-requires : goal.end_of_ticks-requires
end_of_ticks-requires g c = tick-fault c.args.shared.now.setup c.args.seat.now c.in-Some.now
    c.in-Some-call_node.fault c.call_node.new.seat.front c.new.result c.new.ensures
    c.in-Some.ensures.range
    (refused_so c.args.shared.now.setup c.args.seat.now c.new.result c.call_node.new.seat.front
    c.in-Some-call_node.fault c.in-Some-call_node.ensures.asks)

pub returns-in-None-clause-ticks : goal.returns-in-None-clause-ticks
returns-in-None-clause-ticks g c =
    let taken = taken_so c.args.shared.now.setup c.args.seat.now c.new.result
    c.call_node.new.seat.front c.in-None.ensures.asks in
    tick-told c.args.shared.now.setup c.args.seat.now _ _ c.in-Some.now c.call_node.new.seat.front
    c.in-Some.ensures c.new.result c.new.ensures (Ok taken.0) None taken.1 refl

pub returns-in-Some-call_node-clause-ticks : goal.returns-in-Some-call_node-clause-ticks
returns-in-Some-call_node-clause-ticks g c = tick-told c.args.shared.now.setup c.args.seat.now _ _
    c.in-Some.now c.call_node.new.seat.front c.in-Some.ensures c.new.result c.new.ensures
    (Err c.in-Some-call_node.fault) c.end_of_ticks.result
    (refused_so c.args.shared.now.setup c.args.seat.now c.new.result c.call_node.new.seat.front
    c.in-Some-call_node.fault c.in-Some-call_node.ensures.asks) c.end_of_ticks.ensures
