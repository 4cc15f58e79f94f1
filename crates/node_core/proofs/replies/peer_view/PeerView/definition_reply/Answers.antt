use Rattle.tase_views.specs.declared.call.CallKind.TheVariants.{Define}
use Rattle.tase_views.specs.Answers.{reply_to}
use Rattle.node_core.proofs.OfReplies.Answered.{in_each}
use Rattle.node_core.proofs.replies.peer_view.PeerView.definition_reply.Goals as goal

pub returns-clause-value : goal.returns-clause-value
returns-clause-value c =
    in_each _ c.args.self.now
    (λ tables view ordinal. reply_to tables view ordinal
    (Define c.args.set.now c.args.members.now)) c.define_reply.result c.self.view_is
    (λ updates tables view s ordinal. c.define_reply.ensures.value tables view s.table s.book)
