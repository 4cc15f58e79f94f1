use Rattle.std.proofs.Common.{length, take}
use Rattle.node_core.specs.Feeds.Indexed.{HasWatched}
use Rattle.node_core.proofs.OfFeeds.Indexes.{named_in}
use Rattle.node_core.proofs.feeds.index.watch_members.Given as goal

abbrev pub invariant-loop-name : goal.invariant-loop-name
invariant-loop-name l =
    HasWatched (length l.table.rows.points) l.slot
    (named_in l.table (take l.name-index l.name-items)) l.initial.watch l.watch
