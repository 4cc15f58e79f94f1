use Rattle.std.proofs.Common.{◌≡◌, ◌++◌, true, List, sym, ap, ◌∙◌}
use Rattle.transfer_sets.specs.Banks.{OwnedSlot, slot_at, is_owned_by}
use Rattle.tase_views.specs.declared.reply.ReportKind.{ReportKind}
use Rattle.node_core.proofs.OfReplies.ReportsMade.{on_ok}
use Rattle.node_core.proofs.OfReplies.ReportsShown.{own-made}
use Rattle.node_core.proofs.replies.reports.add_own.Goals as goal

pub returns : goal.returns
returns c =
    let shown = c.args.shown.now in
    let mine : is_owned_by c.args.ordinal (slot_at shown.slots c.args.slot) ≡ true =
    ap (λ (b : List OwnedSlot). is_owned_by c.args.ordinal (slot_at b c.args.slot))
    (sym c.slots.ensures.value)
    ∙ ap (is_owned_by c.args.ordinal) (sym c.look-own.ensures.slot) ∙ sym c.owns.ensures
    ∙ c.if-not-owns.false in
    on_ok c.add_reports.result (λ each updates tables view s.
    each updates tables view s
    ∙ ap (λ (rs : List ReportKind). c.args.made.now ++ rs)
    (own-made updates tables view shown s c.args.slot c.args.cause c.args.ordinal mine))
    c.add_reports.ensures
