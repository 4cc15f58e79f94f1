use Rattle.std.proofs.Common.{◌+◌, ◌*◌}
use Rattle.node_core.specs.Feeds.SlotFeeds.{due_count}
use Rattle.node_core.proofs.OfFeeds.SlotFeeds.{IsTicking}
use Rattle.node_core.proofs.feeds.cause.report_due.Given as goal

abbrev pub invariant-loop-slot : goal.invariant-loop-slot
invariant-loop-slot l =
    IsTicking l.advance.from l.advance.to l.slot l.initial.bank l.bank l.dues l.looks
    (l.initial.looks + 3 * due_count l.advance.from l.advance.to l.initial.bank)
