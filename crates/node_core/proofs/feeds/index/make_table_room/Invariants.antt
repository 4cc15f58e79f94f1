use Rattle.std.proofs.Common.{◌≤◌, take}
use Rattle.std.specs.List.{All}
use Rattle.bilateral.specs.declared.rows.TheConstants.{SLOT_LIMIT}
use Rattle.point_db.specs.WatchLists.{point_slots, HasMoreSpare}
use Rattle.node_core.proofs.feeds.index.make_table_room.Given as goal

abbrev pub invariant-loop-see : goal.invariant-loop-see
invariant-loop-see l = record {
  more : HasMoreSpare l.initial.watch l.watch;
  room : All (λ see. SLOT_LIMIT ≤ (point_slots l.watch see.point).spare)
      (take l.see-index l.see-items);
}
