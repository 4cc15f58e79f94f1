use Rattle.std.proofs.Common.{true, refl}
use Rattle.commands.specs.declared.io.status.Status.TheVariants.{Full}
use Rattle.commands.specs.Io.Saying.{prints, full_text}
use Rattle.commands.proofs.OfIo.Printing.{IsRun-printed, answers_words}
use Rattle.tase_tool.proofs.loading.print_full.Goals as goal

pub returns : goal.returns
returns g c =
    IsRun-printed (g.O.Outside.told c.args.outside.now) (g.O.Outside.told c.open_out.new.self)
    (g.O.Outside.told c.close_out.new.self)
    true (prints Full (full_text c.args.weight c.args.limit)) refl
    (g.O.Out.Sink.told c.in-Some.sink) (g.O.Out.Sink.told c.tell_full-status.new.sink)
    c.tell_full-status.result c.in-Some.ensures c.tell_full-status.ensures.tells
    c.close_out.ensures
    (answers_words Full c.tell_full-status.result refl c.tell_full-status.ensures.answers)
