use Rattle.std.proofs.Common.{◌++◌, List, ap, ◌∙◌}
use Rattle.tase_views.specs.declared.reply.ReportKind.{ReportKind}
use Rattle.node_core.proofs.OfReplies.ReportsShown.{kept_reports, own-made}
use Rattle.node_core.proofs.replies.peer_view.PeerView.slot_reports.Goals as goal

pub returns : goal.returns
returns c = λ updates tables view s ordinal mine.
    let shown = c.args.self.now in
    c.in_ok-add_reports.ensures updates tables view s
    ∙ ap (λ (made : List ReportKind). made ++ kept_reports shown view c.args.slot c.args.cause)
    c.new-made.ensures
    ∙ own-made updates tables view shown s c.args.slot c.args.cause ordinal mine
