use Rattle.std.proofs.Common.{true, ◌++◌, [], ◌∷◌}
use Rattle.std.proofs.lemmas.Result.{err_from_is_err_and}
use Rattle.outside.proofs.Writing.{AppendsPart-front, WritesAll-then}
use Rattle.tase_tool.proofs.lines.write_words.Goals as goal

pub returns-in_err-write_both : goal.returns-in_err-write_both
returns-in_err-write_both g c =
    let p = err_from_is_err_and c.from_residual.result c.from_residual.ensures.1 in
    rw p.1 (AppendsPart-front (g.K.Sink.told c.args.sink.now) (g.K.Sink.told c.write_both.new.sink)
    (c.args.first.now ++ 32 ∷ []) c.args.next.now true c.in_err-write_both.ensures)

pub returns : goal.returns
returns g c =
    WritesAll-then (g.K.Sink.told c.args.sink.now) (g.K.Sink.told c.write_both.new.sink)
    (g.K.Sink.told c.write_all.new.sink) (c.args.first.now ++ 32 ∷ []) c.args.next.now
    c.write_all.result c.in_ok-write_both.ensures c.write_all.ensures
