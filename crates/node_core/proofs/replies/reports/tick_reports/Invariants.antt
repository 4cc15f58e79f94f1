use Rattle.std.proofs.Common.{◌≡◌, ◌-◌, ◌++◌}
use Rattle.std.specs.Prelude.{flat_map}
use Rattle.std.specs.List.{range_with_len}
use Rattle.node_core.specs.declared.feeds.cause.ReportCause.TheVariants.{Tick}
use Rattle.node_core.specs.Replies.Shown.{InEachView}
use Rattle.node_core.proofs.OfReplies.ReportsShown.{made_by, ended_at}
use Rattle.node_core.proofs.replies.reports.tick_reports.Given as goal

abbrev pub invariant-loop-slot : goal.invariant-loop-slot
invariant-loop-slot l = InEachView l.shown (λ tables view.
    l.made ++ flat_map (made_by tables view l.ordinal (Tick l.from l.to))
    (range_with_len l.slot (l.slot-end - l.slot))
    ≡ ended_at tables view l.ordinal l.to
    ++ flat_map (made_by tables view l.ordinal (Tick l.from l.to)) (range_with_len 0 l.slot-end))
