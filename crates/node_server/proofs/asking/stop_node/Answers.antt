use Rattle.node_server.proofs.Ticked.{stop-asked}
use Rattle.node_server.proofs.asking.stop_node.Goals as goal

pub returns-clause-stops : goal.returns-clause-stops
returns-clause-stops g c = stop-asked c.args.shared.now.setup c.args.seat.now
    c.call_node-refusal.ensures.asks.0 c.call_node-refusal.new.seat.front c.new.result
    c.new.ensures c.call_node-refusal.ensures.asks.1
