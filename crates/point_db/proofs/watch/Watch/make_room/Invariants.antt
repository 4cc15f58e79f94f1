use Rattle.std.proofs.Common.{◌≤◌, take}
use Rattle.std.specs.Prelude.{All}
use Rattle.point_db.specs.WatchLists.{point_slots, HasMoreSpare}
use Rattle.point_db.proofs.watch.Watch.make_room.Given as goal

abbrev pub invariant-loop-point : goal.invariant-loop-point
invariant-loop-point l =
    HasMoreSpare l.initial.self-inside.points.items l.self-inside.points.items
    × All (λ point. l.count ≤ (point_slots l.self-inside.points.items point).spare)
    (take l.point-index l.points)
