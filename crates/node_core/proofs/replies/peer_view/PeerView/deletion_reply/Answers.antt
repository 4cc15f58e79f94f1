use Rattle.std.proofs.Common.{sym, ap, ◌∙◌}
use Rattle.bilateral.specs.declared.rows.Table.{Table}
use Rattle.tase_views.specs.declared.call.CallKind.TheVariants.{Delete}
use Rattle.tase_views.specs.OwnTables.{OwnTable}
use Rattle.tase_views.specs.Answers.{reply_to}
use Rattle.node_core.proofs.OfReplies.Answered.{ok_in_each}
use Rattle.node_core.proofs.replies.peer_view.PeerView.deletion_reply.Goals as goal

pub returns-clause-value : goal.returns-clause-value
returns-clause-value c =
    ok_in_each _ c.args.self.now
    (λ tables view ordinal. reply_to tables view ordinal (Delete c.args.sets.now))
    c.delete_reply.result c.self.view_is
    (λ updates tables view s ordinal. c.delete_reply.ensures.value tables view ordinal
    (ap (λ (x : OwnTable). x.domain) (sym s.table)
    ∙ ap (λ (x : Table). x.domain) (sym c.table-table.ensures.table))
    (ap (λ (x : OwnTable). x.slots) (sym s.table)
    ∙ ap (λ (x : Table). x.slots) (sym c.table-table.ensures.table)) s.book s.slots)
