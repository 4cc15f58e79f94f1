use Rattle.std.proofs.Common.{refl}
use Rattle.commands.specs.Io.Statuses.{is_of_command}
use Rattle.commands.specs.Io.Saying.{prints}
use Rattle.commands.proofs.OfIo.Printing.{IsRun-printed, answers_words}
use Rattle.commands.proofs.io.output.print.Goals as goal

pub returns : goal.returns
returns g c =
    IsRun-printed (g.O.Outside.told c.args.outside.now) (g.O.Outside.told c.open_out.new.self)
    (g.O.Outside.told c.close_out.new.self)
    (is_of_command c.args.status) (prints c.args.status c.args.text.now) refl
    (g.O.Out.Sink.told c.in-Some.sink) (g.O.Out.Sink.told c.tell-status.new.sink)
    c.tell-status.result c.in-Some.ensures c.tell-status.ensures.tells c.close_out.ensures
    (answers_words c.args.status c.tell-status.result c.requires c.tell-status.ensures.answers)
