use Rattle.std.proofs.Common.{◌≡◌, rules, subst}
use Rattle.std.specs.Arc.{arc_value}
use Rattle.node_server.specs.NodeCalls.{NodeCall, CallsNode, AsksStop}
use Rattle.node_server.proofs.Ticked.{stop-asked}
use Rattle.server_main.specs.Run.Gathering.{SharedNode}
use Rattle.std.proofs.Common.{List}
use Rattle.server_main.proofs.node_run.NodeRun.ask_stop.Goals as goal

pub returns-clause-stops : goal.returns-clause-stops
returns-clause-stops g c =
    let same : c.deref.result.now ≡ arc_value c.args.self.now.shared.now = search rules in
    subst (λ (n : SharedNode). (calls : List NodeCall) × AsksStop calls
    × CallsNode n.setup c.args.seat.now calls c.call-outcome.new.seat.front) same
    (stop-asked c.deref.result.now.setup c.args.seat.now c.call-outcome.result
    c.call-outcome.new.seat.front c.new-event.result c.new-event.ensures c.call-outcome.ensures.one)
