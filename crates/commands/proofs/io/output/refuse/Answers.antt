use Rattle.std.proofs.Common.{true, refl}
use Rattle.commands.specs.declared.io.status.Status.TheVariants.{Input}
use Rattle.commands.specs.Io.Saying.{prints, refusal_text}
use Rattle.commands.proofs.OfIo.Printing.{IsRun-printed, answers_words}
use Rattle.commands.proofs.io.output.refuse.Goals as goal

pub returns-clause-runs : goal.returns-clause-runs
returns-clause-runs g c =
    IsRun-printed (g.O.Outside.told c.args.outside.now) (g.O.Outside.told c.open_out.new.self)
    (g.O.Outside.told c.close_out.new.self)
    true (prints Input (refusal_text c.args.input.now c.args.refusal)) refl
    (g.O.Out.Sink.told c.in-Some.sink) (g.O.Out.Sink.told c.tell_refusal-status.new.sink)
    c.tell_refusal-status.result c.in-Some.ensures c.tell_refusal-status.ensures.tells
    c.close_out.ensures
    (answers_words Input c.tell_refusal-status.result refl c.tell_refusal-status.ensures.answers)
