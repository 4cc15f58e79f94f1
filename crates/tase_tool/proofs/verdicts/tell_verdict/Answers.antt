use Rattle.std.proofs.Common.{true}
use Rattle.commands.proofs.OfIo.Printing.{IsRun-printed}
use Rattle.tase_tool.specs.Verifying.{verdict_said}
use Rattle.tase_tool.proofs.VerdictsTold.{verdict_alone, verdict_answered}
use Rattle.tase_tool.proofs.verdicts.tell_verdict.Goals as goal

pub returns-clause-runs : goal.returns-clause-runs
returns-clause-runs g c =
    let verdict = c.args.verdict in
    IsRun-printed (g.O.Outside.told c.args.outside.now) (g.O.Outside.told c.open_out.new.self)
    (g.O.Outside.told c.close_out.new.self)
    true (verdict_said verdict) (verdict_alone verdict)
    (g.O.Out.Sink.told c.in-Some.sink) (g.O.Out.Sink.told c.write_verdict-status.new.sink)
    c.write_verdict-status.result c.in-Some.ensures c.write_verdict-status.ensures.tells
    c.close_out.ensures
    (verdict_answered verdict c.write_verdict-status.result
    c.write_verdict-status.ensures.answers).0

pub returns-clause-memory : goal.returns-clause-memory
returns-clause-memory g c =
    (verdict_answered c.args.verdict c.write_verdict-status.result
    c.write_verdict-status.ensures.answers).1
