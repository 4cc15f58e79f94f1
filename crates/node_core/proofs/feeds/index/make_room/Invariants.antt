use Rattle.std.proofs.Common.{◌≡◌, ◌<◌, ◌≤◌, ℕ, is_some, true}
use Rattle.bilateral.specs.declared.rows.TheConstants.{SLOT_LIMIT}
use Rattle.bilateral.specs.Rows.{place_of_see, variant_of}
use Rattle.point_db.specs.WatchLists.{point_slots, HasMoreSpare}
use Rattle.node_core.proofs.feeds.index.make_room.Given as goal

abbrev pub invariant-loop-variant : goal.invariant-loop-variant
invariant-loop-variant l = record {
  more : HasMoreSpare l.initial.watch l.watch;
  room : (v p : ℕ) → v < l.variant
      → is_some (place_of_see (variant_of l.centre l.peer v) p) ≡ true
      → SLOT_LIMIT ≤ (point_slots l.watch p).spare;
}
