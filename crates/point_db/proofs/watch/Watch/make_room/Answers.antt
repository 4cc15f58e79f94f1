use Rattle.std.proofs.Common.{◌≤◌, ◌<◌, length, set, subst, ap, arith, get_or, refl}
use Rattle.std.proofs.lemmas.List.{take_all}
use Rattle.std.specs.Prelude.{All}
use Rattle.point_db.specs.WatchLists.{point_slots, HasMoreSpare}
use Rattle.point_db.proofs.WatchChanges.{HasMoreSpare-length, HasMoreSpare-set, room-set}
use Rattle.point_db.proofs.watch.Watch.make_room.Goals.{After-make_room}
use Rattle.point_db.proofs.watch.Watch.make_room.Goals as goal

within : (c : After-make_room)
    → get_or c.args.points.now c.loop-point.point-index 0
    < length c.loop-point.self-inside.points.items
within c = omega (
  arith,
  c.requires.there c.loop-point.point-index 0 c.loop-point-test.true,
  HasMoreSpare-length _ _ c.loop-point.invariant.0,
  ap length c.self.view_is,
)

more : (c : After-make_room)
    → HasMoreSpare c.self.inside.points.items (set c.loop-point.self-inside.points.items
    (get_or c.args.points.now c.loop-point.point-index 0) c.make_room.new.self)
more c =
    HasMoreSpare-set c.loop-point.self-inside.points.items
    (get_or c.args.points.now c.loop-point.point-index 0) c.index_mut.result.now
    c.make_room.new.self (within c) c.index_mut.ensures.value c.make_room.ensures.spare
    c.self.inside.points.items c.make_room.ensures.slots c.loop-point.invariant.0

pub returns-in_err-make_room-clause-more : goal.returns-in_err-make_room-clause-more
returns-in_err-make_room-clause-more c =
    subst (λ old. HasMoreSpare old (set c.loop-point.self-inside.points.items
    (get_or c.args.points.now c.loop-point.point-index 0) c.make_room.new.self)) c.self.view_is
    (more (goal.at.returns-in_err-make_room-clause-more c).After-make_room)

pub loop-point-preserved : goal.loop-point-preserved
loop-point-preserved c =
    let known = goal.at.loop-point-preserved c in (
      more known.After-make_room,
      room-set c.loop-point.self-inside.points.items
          (get_or c.args.points.now c.loop-point.point-index 0) c.index_mut.result.now
          c.make_room.new.self (within known.After-make_room) c.index_mut.ensures.value
          c.make_room.ensures.spare c.args.count c.args.points.now c.loop-point.point-index
          c.loop-point-test.true refl c.in_ok-make_room.ensures.ok c.loop-point.invariant.1,
    )

pub returns-clause-ok : goal.returns-clause-ok
returns-clause-ok c =
    subst (λ places. All
    (λ p. c.args.count ≤ (point_slots c.loop-point.self-inside.points.items p).spare) places)
    (take_all c.loop-point.point-index c.args.points.now (omega (arith, c.loop-point-test.false)))
    c.loop-point.invariant.1
