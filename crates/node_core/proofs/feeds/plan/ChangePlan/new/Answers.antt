use Rattle.std.proofs.lemmas.List.{map-append}
use Rattle.node_core.proofs.OfFeeds.Planned.{no_places-more}
use Rattle.node_core.proofs.feeds.plan.ChangePlan.new.Goals as goal

pub loop-slot-preserved : goal.loop-slot-preserved
loop-slot-preserved c =
    rw (c.in_ok-push.ensures.items, map-append, c.loop-slot.invariant, c.new.ensures.items)
    (no_places-more c.loop-slot.slot)
