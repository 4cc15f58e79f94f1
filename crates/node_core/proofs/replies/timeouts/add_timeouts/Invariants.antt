use Rattle.std.proofs.Common.{◌≡◌, ◌++◌, drop}
use Rattle.node_core.specs.Replies.Shown.{InEachView}
use Rattle.node_core.proofs.OfReplies.SelectionsEnded.{timeouts_of}
use Rattle.node_core.proofs.replies.timeouts.add_timeouts.Given as goal

abbrev pub invariant-loop-control : goal.invariant-loop-control
invariant-loop-control l = InEachView l.shown (λ tables view.
    l.made ++ timeouts_of l.shown.table.rows tables view l.ordinal l.now
    (drop l.control-index l.control-items)
    ≡ l.initial.made ++ timeouts_of l.shown.table.rows tables view l.ordinal l.now l.control-items)
