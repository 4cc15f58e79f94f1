use Rattle.std.proofs.Common.{true}
use Rattle.std.proofs.lemmas.Result.{err_from_is_err_and}
use Rattle.outside.proofs.Writing.{AppendsPart-front, WritesAll-then}
use Rattle.tase_tool.proofs.lines.write_both.Goals as goal

pub returns-in_err-write_all : goal.returns-in_err-write_all
returns-in_err-write_all g c =
    let p = err_from_is_err_and c.from_residual.result c.from_residual.ensures.1 in
    rw p.1 (AppendsPart-front (g.K.Sink.told c.args.sink.now) (g.K.Sink.told c.write_all.new.sink)
    c.args.first.now c.args.next.now true c.in_err-write_all.ensures)

pub returns : goal.returns
returns g c =
    WritesAll-then (g.K.Sink.told c.args.sink.now) (g.K.Sink.told c.write_all.new.sink)
    (g.K.Sink.told c.write_all-2.new.sink) c.args.first.now c.args.next.now c.write_all-2.result
    c.in_ok-write_all.ensures c.write_all-2.ensures
