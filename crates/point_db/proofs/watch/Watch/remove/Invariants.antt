use Rattle.std.proofs.Common.{◌≡◌}
use Rattle.point_db.specs.WatchLists.{unwatched_by}
use Rattle.point_db.proofs.WatchChanges.{changed_below}
use Rattle.point_db.proofs.watch.Watch.remove.Given as goal

abbrev pub invariant-loop-place : goal.invariant-loop-place
invariant-loop-place l =
    l.self-inside.points.items
    ≡ changed_below (unwatched_by l.slot) l.place l.initial.self-inside.points.items
