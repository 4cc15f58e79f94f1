use Rattle.std.proofs.Common.{◌<◌, length, subst, arith, ◌∙◌}
use Rattle.std.specs.Arc.{arc_value}
use Rattle.bilateral.specs.Rows.{variants_of}
use Rattle.node_core.specs.NodeState.{NodeState}
use Rattle.node_core.proofs.OfNode.NodeSteps.{its_part, peer_there}
use Rattle.node_core.proofs.node.Node.force.Goals as goal

pub force-requires : goal.force-requires
force-requires c =
    let known : c.args.peer < length (arc_value c.self.inside.centre).tables =
    rw (← c.self.view_is) at c.requires in
    omega (arith, known, c.self.invariant.0.peers.many, c.self.inside.parts.peers.ok)

pub returns-clause-force : goal.returns-clause-force
returns-clause-force c =
    let known : c.args.peer < length (arc_value c.self.inside.centre).tables =
    rw (← c.self.view_is) at c.requires in
    let part = its_part _ _ _ _ c.self.invariant.0 c.args.peer known in
    rw (← c.self.view_is) (c.force.ensures part.0 part.1 ∙ part.2.in_force)

pub returns-clause-there : goal.returns-clause-there
returns-clause-there c =
    let known : c.args.peer < length (arc_value c.self.inside.centre).tables =
    rw (← c.self.view_is) at c.requires in
    let part = its_part _ _ _ _ c.self.invariant.0 c.args.peer known in
    let there = (peer_there _ _ _ _ c.self.invariant.0 c.args.peer known).in_force part.0 part.1 in
    subst (λ (node : NodeState). c.force.result
    < length (variants_of node.setup.centre c.args.peer)) c.self.view_is
    (rw (c.force.ensures part.0 part.1) there)
