use Rattle.std.proofs.Common.{◌<◌, length, subst, arith}
use Rattle.std.specs.Arc.{arc_value}
use Rattle.bilateral.specs.Rows.{variants_of}
use Rattle.node_core.specs.NodeState.{NodeState}
use Rattle.node_core.proofs.OfNode.NodeSteps.{peer_there}
use Rattle.node_core.proofs.node.Node.chosen.Goals as goal

pub part-requires : goal.part-requires
part-requires c =
    let known : c.args.peer < length (arc_value c.self.inside.centre).tables =
    rw (← c.self.view_is) at c.requires in
    omega (arith, known, c.self.invariant.0.peers.many, c.self.inside.parts.peers.ok)

pub returns-clause-chosen : goal.returns-clause-chosen
returns-clause-chosen c =
    rw (← c.self.view_is)
    (c.self.invariant.0.peers.each c.args.peer c.part.result.now c.part.ensures).last

pub returns-clause-there : goal.returns-clause-there
returns-clause-there c =
    let known : c.args.peer < length (arc_value c.self.inside.centre).tables =
    rw (← c.self.view_is) at c.requires in
    let there = peer_there _ _ _ _ c.self.invariant.0 c.args.peer known in
    subst (λ (node : NodeState). c.part.result.now.chosen_last
    < length (variants_of node.setup.centre c.args.peer)) c.self.view_is
    (there.chosen c.part.result.now c.part.ensures)
