use Rattle.std.proofs.Common.{arith}
use Rattle.std.proofs.lemmas.Result.{err_from_is_err_and}
use Rattle.tase_tool.proofs.Escaping.{all_written, octet_stopped, octet_written}
use Rattle.tase_tool.proofs.discover.ending.write_escaped.Goals as goal

pub loop-octet-preserved : goal.loop-octet-preserved
loop-octet-preserved g c =
    octet_written c.args.octets.now c.loop-octet.octet-index (g.K.Sink.told c.args.sink.now)
    (g.K.Sink.told c.loop-octet.sink) (g.K.Sink.told c.write_octet.new.sink)
    c.loop-octet.invariant (omega arith) c.in_ok-write_octet.ensures

pub returns-in_err-write_octet : goal.returns-in_err-write_octet
returns-in_err-write_octet g c =
    let p = err_from_is_err_and c.from_residual.result c.from_residual.ensures.1 in
    rw p.1 (octet_stopped c.args.octets.now c.loop-octet.octet-index
    (g.K.Sink.told c.args.sink.now) (g.K.Sink.told c.loop-octet.sink)
    (g.K.Sink.told c.write_octet.new.sink) c.loop-octet.invariant (omega arith)
    c.in_err-write_octet.ensures)

pub returns : goal.returns
returns g c =
    all_written c.args.octets.now c.loop-octet.octet-index (g.K.Sink.told c.args.sink.now)
    (g.K.Sink.told c.loop-octet.sink) (omega arith) c.loop-octet.invariant
