use Rattle.std.proofs.Common.{◌++◌, List, ap, ◌∙◌, arith}
use Rattle.tase_views.specs.declared.reply.ReportKind.{ReportKind}
use Rattle.node_core.proofs.OfReplies.ReportsShown.{asked-made, asked-none, made_by}
use Rattle.node_core.specs.declared.feeds.cause.ReportCause.TheVariants.{Ask}
use Rattle.node_core.proofs.replies.reports.asked_reports.Goals as goal
use Rattle.node_core.proofs.replies.reports.asked_reports.Goals.{then-from-lt-SLOT_LIMIT+in_ok-add_own}
use Rattle.node_core.proofs.replies.reports.asked_reports.Goals.{else-from-lt-SLOT_LIMIT}

pub returns : goal.returns
returns c = λ updates tables view s moment.
    let shown = c.args.shown.now in
    let ordinal = c.args.ordinal in
    let slot = c.args.slot in
    let now = c.args.now in
    elim c.if-from-lt-SLOT_LIMIT.branch [
      | then-from-lt-SLOT_LIMIT+in_ok-add_own w ↦
          asked-made updates tables view shown s ordinal slot now c.if-from-lt-SLOT_LIMIT.made
          moment (w.made-is ∙ w.in_ok-add_own.ensures updates tables view s
          ∙ ap (λ (made : List ReportKind). made
          ++ made_by tables view ordinal (Ask slot now) slot) c.new-made.ensures)
      | else-from-lt-SLOT_LIMIT w ↦
          w.made-is ∙ c.new-made.ensures
          ∙ asked-none updates tables view shown s ordinal slot now moment
          (omega (arith, c.from.ensures, w.if-from-lt-SLOT_LIMIT.false))
    ]
