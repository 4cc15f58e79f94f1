use Rattle.std.proofs.Common.{◌≤◌, ◌<◌, ℕ, length}
use Rattle.transfer_sets.specs.Banks.{slot_at, HasMoreRoom}
use Rattle.node_core.specs.Feeds.SlotFeeds.{places_at}
use Rattle.node_core.proofs.OfFeeds.Planned.{IsLookedTo, is_planned}
use Rattle.node_core.proofs.feeds.plan.ChangePlan.make_room.Given as goal

abbrev pub invariant-loop-slot : goal.invariant-loop-slot
invariant-loop-slot l = record {
  more : HasMoreRoom l.initial.bank l.bank;
  below : (s : ℕ) → s < l.slot → length (places_at l.self s) ≤ (slot_at l.bank s).spare;
  looks : IsLookedTo (is_planned l.self) l.slot l.initial.looks l.looks;
}
