use Rattle.std.proofs.Common.{◌∙◌, ℕ, List, replicate, ap, subst}
use Rattle.bilateral.specs.declared.rows.TheConstants.{SLOT_LIMIT}
use Rattle.point_db.specs.WatchLists.{PointSlots, unwatched, HasMoreSpare}
use Rattle.node_core.proofs.OfFeeds.Indexes.{first_index}
use Rattle.node_core.proofs.feeds.index.PeerIndex.new.Goals as goal

pub returns : goal.returns
returns c = λ limit.
    first_index c.args.centre.now c.args.peer limit
    (record { dues = c.in_ok-new.field-0; watch = c.make_room.new.watch })
    (subst (λ (old : List PointSlots). HasMoreSpare old c.make_room.new.watch)
    (c.in_ok-watch.ensures ∙ ap (λ (n : ℕ). replicate n unwatched) c.points.ensures.count)
    c.in_ok-make_room.ensures.more)
    c.in_ok-make_room.ensures.ok c.in_ok-new.ensures
    (c.due_indexes_last.ensures.start SLOT_LIMIT 0)
