use Rattle.std.proofs.Common.{◌≡◌}
use Rattle.point_db.specs.WatchLists.{cleared}
use Rattle.point_db.proofs.WatchChanges.{changed_below}
use Rattle.point_db.proofs.watch.Watch.clear.Given as goal

abbrev pub invariant-loop-place : goal.invariant-loop-place
invariant-loop-place l =
    l.self-inside.points.items
    ≡ changed_below cleared l.place l.initial.self-inside.points.items
