use Rattle.std.proofs.Common.{true}
use Rattle.std.proofs.lemmas.Result.{err_from_is_err_and}
use Rattle.outside.proofs.Writing.{AppendsPart-front, WritesAll-then}
use Rattle.plain_text.specs.Escaped.{escaped_text}
use Rattle.tase_tool.proofs.discover.ending.write_item.Goals as goal

pub returns-in_err-write_all : goal.returns-in_err-write_all
returns-in_err-write_all g c =
    let p = err_from_is_err_and c.from_residual.result c.from_residual.ensures.1 in
    rw p.1 (AppendsPart-front (g.K.Sink.told c.args.sink.now)
    (g.K.Sink.told c.write_all.new.sink) c.args.before.now (escaped_text c.args.item.now) true
    c.in_err-write_all.ensures)

pub returns : goal.returns
returns g c =
    WritesAll-then (g.K.Sink.told c.args.sink.now) (g.K.Sink.told c.write_all.new.sink)
    (g.K.Sink.told c.write_escaped.new.sink) c.args.before.now (escaped_text c.args.item.now)
    c.write_escaped.result c.in_ok-write_all.ensures c.write_escaped.ensures
