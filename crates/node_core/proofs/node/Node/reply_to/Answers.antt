use Rattle.std.proofs.Common.{reverse, refl, sym, ap, subst, ◌∙◌}
use Rattle.std.specs.Arc.{arc_value}
use Rattle.bilateral.specs.Rows.{CentreRows, IsCentre}
use Rattle.tase_views.specs.OwnTables.{own_tables}
use Rattle.tase_views.specs.View.{view_of}
use Rattle.tase_views.specs.Answers.{reply_to}
use Rattle.node_core.specs.LastValues.{updates_in}
use Rattle.node_core.specs.NodeState.{NodeState}
use Rattle.node_core.specs.Room.{past_of}
use Rattle.node_core.specs.Stored.{IsPeerThere}
use Rattle.node_core.proofs.OfNode.NodeSteps.{peer_there}
use Rattle.node_core.proofs.OfNode.PeerViews.{showable, shown_is}
use Rattle.node_core.proofs.node.Node.reply_to.Goals as goal

pub peer_view-shown-requires-clause-lawful : goal.peer_view-shown-requires-clause-lawful
peer_view-shown-requires-clause-lawful c =
    subst (λ (those : CentreRows). IsCentre those) (sym c.deref.ensures)
    c.self.invariant.0.common.lawful

pub peer_view-shown-requires-clause-there : goal.peer_view-shown-requires-clause-there
peer_view-shown-requires-clause-there c =
    let known = rw (← c.self.view_is) at c.requires.known in
    subst (λ (those : CentreRows). IsPeerThere those c.self.inside.parts.peers.items
    c.args.key.peer) (sym c.deref.ensures)
    (peer_there _ _ _ _ c.self.invariant.0 c.args.key.peer known)

pub peer_view-shown-requires-clause-shown : goal.peer_view-shown-requires-clause-shown
peer_view-shown-requires-clause-shown c =
    let known = rw (← c.self.view_is) at c.requires.known in
    showable _ _ _ _ c.self.invariant.0 c.args.key.peer known _ _ c.deref.ensures refl

pub returns : goal.returns
returns c =
    let rows = arc_value c.self.inside.centre in
    let past = past_of c.self.inside.log in
    let peer = c.args.key.peer in
    let known = rw (← c.self.view_is) at c.requires.known in
    let shown = shown_is rows past _ _ c.self.invariant.0 peer known _ _ c.deref.ensures
    refl c.peer_view-shown.result c.peer_view-shown.ensures in
    c.in_ok-reply.ensures (updates_in past) (own_tables rows peer) (view_of rows peer past) shown
    ∙ ap (λ (node : NodeState). reply_to (own_tables node.setup.centre peer)
    (view_of node.setup.centre peer (reverse node.history)) c.args.key.ordinal c.args.call.now)
    c.self.view_is
