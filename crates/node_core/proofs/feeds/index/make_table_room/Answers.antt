use Rattle.std.proofs.Common.{◌≤◌, ◌∙◌, List, take_all, subst, arith}
use Rattle.std.specs.List.{All}
use Rattle.bilateral.specs.declared.rows.See.{See}
use Rattle.bilateral.specs.declared.rows.TheConstants.{SLOT_LIMIT}
use Rattle.point_db.specs.WatchLists.{point_slots}
use Rattle.node_core.proofs.OfFeeds.Indexes.{room-shown}
use Rattle.node_core.proofs.feeds.index.make_table_room.Goals as goal

pub returns-clause-ok : goal.returns-clause-ok
returns-clause-ok c =
    room-shown c.args.table.now c.loop-see.watch
    (subst (λ (sees : List See).
    All (λ see. SLOT_LIMIT ≤ (point_slots c.loop-see.watch see.point).spare) sees)
    (take_all c.loop-see.see-index c.as_slice-see-items.result.now (omega arith)
    ∙ c.as_slice-see-items.ensures)
    c.loop-see.invariant.room)
