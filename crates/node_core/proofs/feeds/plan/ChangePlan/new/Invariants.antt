use Rattle.std.proofs.Common.{◌≡◌, map}
use Rattle.node_core.specs.Feeds.SlotFeeds.{no_places}
use Rattle.node_core.proofs.feeds.plan.ChangePlan.new.Given as goal

abbrev pub invariant-loop-slot : goal.invariant-loop-slot
invariant-loop-slot l = map (λ places. places.items) l.places.items ≡ no_places l.slot
