use Rattle.std.proofs.Common.{◌≡◌, ◌<◌, ℕ, map, length}
use Rattle.bilateral.specs.declared.rows.TheConstants.{SLOT_LIMIT}
use Rattle.bilateral.specs.Rows.{point_of}
use Rattle.transfer_sets.specs.Banks.{slot_at}
use Rattle.node_core.specs.Objects.Found.{offered}
use Rattle.node_core.specs.Feeds.SlotFeeds.{places_at, places_planned}
use Rattle.node_core.proofs.OfFeeds.Planned.{IsLookedTo, is_watcher}
use Rattle.node_core.proofs.feeds.plan.ChangePlan.plan.Given as goal

abbrev pub invariant-loop-slot : goal.invariant-loop-slot
invariant-loop-slot l = record {
  many : length l.self-inside.places.items ≡ SLOT_LIMIT;
  below : (s : ℕ) → s < l.slot
      → places_at (map (λ places. places.items) l.self-inside.places.items) s
      ≡ places_planned (offered l.table) l.book (point_of l.table.rows l.point).name
      (slot_at l.bank s);
  looks : IsLookedTo (is_watcher (offered l.table) l.book (point_of l.table.rows l.point).name
      l.bank) l.slot l.initial.looks l.looks;
}
