use Rattle.std.proofs.Common.{sym, ap, ◌∙◌}
use Rattle.bilateral.specs.declared.rows.Table.{Table}
use Rattle.tase_views.specs.declared.call.CallKind.TheVariants.{MembersOf}
use Rattle.tase_views.specs.OwnTables.{OwnTable}
use Rattle.tase_views.specs.Answers.{reply_to}
use Rattle.node_core.proofs.OfReplies.Answered.{ok_in_each}
use Rattle.node_core.proofs.replies.peer_view.PeerView.set_reply.Goals as goal

pub returns-clause-value : goal.returns-clause-value
returns-clause-value c =
    ok_in_each _ c.args.self.now
    (λ tables view ordinal. reply_to tables view ordinal (MembersOf c.args.set.now))
    c.members_reply.result c.self.view_is
    (λ updates tables view s ordinal. c.members_reply.ensures.value tables view
    (ap (λ (x : OwnTable). x.domain) (sym s.table)
    ∙ ap (λ (x : Table). x.domain) (sym c.table.ensures.table)) s.book)
