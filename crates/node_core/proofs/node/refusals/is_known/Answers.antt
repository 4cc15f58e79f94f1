use Rattle.std.proofs.Common.{◌≡◌, true, ltb, length, arith}
use Rattle.std.proofs.lemmas.Bool.{lt-ltb}
use Rattle.std.proofs.lemmas.Option.{get_or_from_slice_get}
use Rattle.bilateral.specs.Rows.{no_point, point_of}
use Rattle.node_core.proofs.node.refusals.is_known.Goals as goal

pub returns-then-point-points : goal.returns-then-point-points
returns-then-point-points c =
    let rows = c.args.centre.now in
    let within : ltb c.args.point (length rows.points) ≡ true =
    lt-ltb c.args.point (length rows.points) (omega arith) in
    let row : point_of rows c.args.point ≡ c.point.result.now =
    get_or_from_slice_get rows.points c.args.point c.point.result.now no_point c.point.ensures
    in
    record {
      known = rw (within, row, ← c.body.ensures.value, ← c.kind.ensures)
          c.is_same.ensures.value;
    }
