use Rattle.std.proofs.Common.{true, [], ◌∷◌, ◌++◌, codes}
use Rattle.std.proofs.lemmas.Result.{err_from_is_err_and}
use Rattle.outside.proofs.Writing.{AppendsPart-front, WritesAll-then}
use Rattle.plain_text.specs.Escaped.{escaped_text}
use Rattle.tase_tool.proofs.discover.ending.write_last.Goals as goal

pub returns-in_err-write_item : goal.returns-in_err-write_item
returns-in_err-write_item g c =
    let p = err_from_is_err_and c.from_residual.result c.from_residual.ensures.1 in
    rw p.1 (AppendsPart-front (g.K.Sink.told c.args.sink.now)
    (g.K.Sink.told c.write_item.new.sink) (codes " " ++ escaped_text c.args.item.now) (10 ∷ [])
    true c.in_err-write_item.ensures)

pub returns : goal.returns
returns g c =
    WritesAll-then (g.K.Sink.told c.args.sink.now) (g.K.Sink.told c.write_item.new.sink)
    (g.K.Sink.told c.write_all.new.sink) (codes " " ++ escaped_text c.args.item.now) (10 ∷ [])
    c.write_all.result c.in_ok-write_item.ensures c.write_all.ensures
