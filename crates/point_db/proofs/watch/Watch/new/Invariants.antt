use Rattle.std.proofs.Common.{◌≡◌, replicate}
use Rattle.point_db.specs.WatchLists.{unwatched}
use Rattle.point_db.proofs.watch.Watch.new.Given as goal

abbrev pub invariant-loop-point : goal.invariant-loop-point
invariant-loop-point l = l.watches.items ≡ replicate l.point unwatched
