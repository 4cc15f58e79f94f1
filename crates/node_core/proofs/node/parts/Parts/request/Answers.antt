use Rattle.std.proofs.Common.{OnOk, sym, subst, ◌∙◌}
use Rattle.tase_views.specs.declared.event.EventKind.{EventKind}
use Rattle.node_core.specs.PeerParts.{acts_asked, IsReplyBy}
use Rattle.node_core.specs.Stored.{IsAsked}
use Rattle.node_core.proofs.node.parts.Parts.request.Goals as goal

pub returns-clause-ok : goal.returns-clause-ok
returns-clause-ok c =
    subst (λ (e : EventKind). OnOk c.call.result (IsAsked c.args.centre.now c.args.now c.args.key
    (acts_asked e) (λ table book. IsReplyBy table book e c.args.reply.now)
    c.args.self.now.peers.items c.call.new.self.peers.items))
    (sym c.in-Request.is ∙ c.kind.ensures) c.call.ensures.ok
