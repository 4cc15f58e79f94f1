use Rattle.node_core.proofs.OfFeeds.SlotFeeds.{AreReportedTo}
use Rattle.node_core.proofs.feeds.cause.report_all.Given as goal

abbrev pub invariant-loop-slot : goal.invariant-loop-slot
invariant-loop-slot l = AreReportedTo l.cause l.slot l.initial.bank l.bank
