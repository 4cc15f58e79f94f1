use Rattle.std.proofs.Common.{refl, arith}
use Rattle.std.proofs.lemmas.List.{map_more}
use Rattle.std.proofs.lemmas.Option.{get_or_from_slice_get}
use Rattle.bilateral.specs.Rows.{no_point}
use Rattle.node_core.proofs.plant.point_kinds.Goals as goal

pub loop-point-preserved : goal.loop-point-preserved
loop-point-preserved c =
    let row = get_or_from_slice_get c.args.centre.now.points c.loop-point.point c.point.result.now
    no_point c.point.ensures in
    let more = map_more (λ row. row.kind) c.args.centre.now.points c.loop-point.point no_point
    (omega arith) in
    rw (more, row, c.in_ok-push.ensures.items, c.loop-point.invariant) refl
