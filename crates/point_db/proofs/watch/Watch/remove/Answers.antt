use Rattle.std.proofs.Common.{◌<◌, length, map, ap, ◌∙◌, arith}
use Rattle.point_db.specs.WatchLists.{unwatched_by}
use Rattle.point_db.proofs.WatchChanges.{changed-step, changed-all}
use Rattle.point_db.proofs.watch.Watch.remove.Goals as goal

pub loop-place-preserved : goal.loop-place-preserved
loop-place-preserved c =
    let items = c.self.inside.points.items in
    let place = c.loop-place.place in
    let within : place < length items = omega (
      arith,
      c.loop-place-test.true,
      c.len-place-end.ensures,
      c.self.inside.points.ok,
    ) in
    rw (c.remove.ensures, c.index_mut.ensures.value, c.loop-place.invariant)
    (changed-step (unwatched_by c.args.slot) place items _ within)

pub returns : goal.returns
returns c =
    let f = unwatched_by c.args.slot in
    c.loop-place.invariant
    ∙ changed-all f c.loop-place.place c.self.inside.points.items
    (omega (arith, c.loop-place-test.false, c.len-place-end.ensures, c.self.inside.points.ok))
    ∙ ap (map f) c.self.view_is
