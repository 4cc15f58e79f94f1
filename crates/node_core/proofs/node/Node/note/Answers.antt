use Rattle.std.proofs.Common.{◌≡◌, ℕ, Some, reverse, refl, sym, subst, ◌∙◌}
use Rattle.std.specs.Arc.{arc_value}
use Rattle.bilateral.specs.Rows.{CentreRows}
use Rattle.tase_views.specs.History.{association_in, last_tick}
use Rattle.node_core.specs.NodeState.{NodeState}
use Rattle.node_core.specs.PeerParts.{acts_asked, IsReplyBy}
use Rattle.node_core.specs.Room.{past_of}
use Rattle.node_core.specs.Stored.{IsReplied, IsPeerThere, IsAsked}
use Rattle.node_core.proofs.OfNode.Causes.{request-goes_on, request-leaves}
use Rattle.node_core.proofs.OfNode.Calls.{calm_request}
use Rattle.node_core.proofs.OfNode.NodeAnswers.{light_enough, unlogged, logged, lawful_at}
use Rattle.node_core.proofs.OfNode.NodeAnswers.{indexed_at}
use Rattle.node_core.proofs.OfNode.NodeAnswers.{indexed_as}
use Rattle.node_core.proofs.OfNode.NodeSteps.{IsNode-request, IsNode-alike, peer_there, seat_there}
use Rattle.node_core.proofs.node.Node.note.Goals as goal

pub request-requires-clause-there : goal.request-requires-clause-there
request-requires-clause-there c =
    let n = c.self.invariant.0 in
    let key = c.args.key in
    let seated = subst (λ (node : NodeState).
    association_in (reverse node.history) c.args.who ≡ Some key) (sym c.self.view_is)
    c.requires.seated in
    subst (λ (those : CentreRows). IsPeerThere those c.self.inside.parts.peers.items key.peer)
    (sym c.deref.ensures)
    (peer_there _ _ _ _ n key.peer (seat_there _ _ _ _ n c.args.who key seated))

pub request-requires-clause-lawful : goal.request-requires-clause-lawful
request-requires-clause-lawful c = lawful_at c.self.inside c.self.invariant c.deref.ensures

pub request-requires-clause-indexed : goal.request-requires-clause-indexed
request-requires-clause-indexed c =
    indexed_at c.self.inside c.self.invariant c.deref.ensures c.last_tick-now.ensures

pub invariant_of-self : goal.invariant_of-self
invariant_of-self c =
    unlogged c.self.inside c.self.invariant c.reserve.new.self c.reserve.ensures.entries
    c.reserve.ensures.room refl c.self.invariant.0

pub append-requires-clause-light : goal.append-requires-clause-light
append-requires-clause-light c = light_enough (c.in_ok-reserve.ensures.room _ c.self.invariant.1)

pub invariant_of-self-in_err-request : goal.invariant_of-self-in_err-request
invariant_of-self-in_err-request c =
    unlogged c.self.inside c.self.invariant c.reserve.new.self c.in_ok-reserve.ensures.entries
    c.in_ok-reserve.ensures.room refl
    (IsNode-alike _ _ _ c.self.inside.hub _ c.request.new.self refl refl (λ who. refl)
    c.in_err-request.ensures.err c.in_err-request.ensures.indexes c.self.invariant.0)

pub invariant_of-self-2 : goal.invariant_of-self-2
invariant_of-self-2 c =
    let past = past_of c.self.inside.log in
    let event = c.args.event in
    let seated = subst (λ (node : NodeState).
    association_in (reverse node.history) c.args.who ≡ Some c.args.key) (sym c.self.view_is)
    c.requires.seated in
    let replied = subst (λ (node : NodeState). IsReplied node.setup.centre (reverse node.history)
    c.args.key event c.args.reply.now) (sym c.self.view_is) c.requires.replied in
    let asked = subst (λ (those : CentreRows). IsAsked those (last_tick past) c.args.key
    (acts_asked event) (λ table book. IsReplyBy table book event c.args.reply.now)
    c.self.inside.parts.peers.items c.request.new.self.peers.items) c.deref.ensures
    (subst (λ (m : ℕ). IsAsked c.deref.result.now m c.args.key (acts_asked event)
    (λ table book. IsReplyBy table book event c.args.reply.now)
    c.self.inside.parts.peers.items c.request.new.self.peers.items)
    (c.last_tick-now.ensures ∙ c.self.invariant.0.clock) c.in_ok-request.ensures.ok) in
    let request = calm_request event c.requires.request in
    logged c.self.inside c.self.invariant c.args.who c.reserve.new.self c.append.new.self
    c.open_count.result c.self.view_is refl c.requires.free (request-goes_on event request)
    c.in_ok-reserve.ensures c.append.ensures (request-leaves event _ _ request refl)
    c.open_count.ensures.count
    (IsNode-request (arc_value c.self.inside.centre) past _ _ c.self.invariant.0 c.args.who
    c.self.inside.hub c.request.new.self
    (indexed_as c.request.new.self c.deref.ensures c.last_tick-now.ensures c.request.ensures.indexed) c.args.key event c.args.reply.now seated
    c.requires.request replied refl c.in_ok-request.ensures.lawful asked)
