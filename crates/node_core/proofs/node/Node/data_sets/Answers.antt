use Rattle.std.proofs.Common.{◌≡◌, ◌<◌, length, reverse, subst, arith}
use Rattle.std.specs.Arc.{arc_value}
use Rattle.tase_views.specs.OwnTables.{own_tables}
use Rattle.tase_views.specs.View.{view_of}
use Rattle.tase_views.specs.Listed.{sets_listed}
use Rattle.node_core.specs.NodeState.{NodeState}
use Rattle.node_core.proofs.node.Node.data_sets.Goals as goal

pub part-requires : goal.part-requires
part-requires c =
    let known : c.args.peer < length (arc_value c.self.inside.centre).tables =
    rw (← c.self.view_is) at c.requires in
    omega (arith, known, c.self.invariant.0.peers.many, c.self.inside.parts.peers.ok)

pub returns : goal.returns
returns c =
    subst (λ (node : NodeState). c.part.result.now.book.sets
    ≡ sets_listed (own_tables node.setup.centre c.args.peer)
    (view_of node.setup.centre c.args.peer (reverse node.history))) c.self.view_is
    (c.self.invariant.0.peers.each c.args.peer c.part.result.now c.part.ensures).sets.listed
