use Rattle.std.proofs.Common.{arith}
use Rattle.node_core.proofs.OfFeeds.SlotFeeds.{reported_more, all_reported, none_reported}
use Rattle.node_core.proofs.feeds.cause.report_all.Goals as goal

pub loop-slot-init : goal.loop-slot-init
loop-slot-init c = none_reported _ _

pub report_slot-requires : goal.report_slot-requires
report_slot-requires c =
    omega (arith, c.loop-slot-test.true, c.loop-slot.invariant.many, c.requires)

pub loop-slot-preserved : goal.loop-slot-preserved
loop-slot-preserved c =
    reported_more _ _ _ _ _ (omega (arith, c.loop-slot-test.true, c.requires))
    c.loop-slot.invariant c.report_slot.ensures.slots

pub returns : goal.returns
returns c =
    all_reported _ _ _ _ (omega (arith, c.loop-slot-test.false, c.requires))
    c.loop-slot.invariant
