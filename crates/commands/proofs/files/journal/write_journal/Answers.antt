use Rattle.std.proofs.Common.{refl}
use Rattle.commands.specs.declared.io.status.Status.TheVariants.{Done}
use Rattle.commands.specs.Io.Saying.{prints}
use Rattle.commands.proofs.OfIo.Printing.{TellsOut-told, TellsOut-untold}
use Rattle.texts.specs.Journal.Journals.{journal_text}
use Rattle.commands.proofs.files.journal.write_journal.Goals as goal

pub returns-in_default : goal.returns-in_default
returns-in_default g c = record {
  ends = tt;
  tells = TellsOut-untold c.args.name.now (g.O.Outside.told c.args.outside.now)
      (g.O.Outside.told c.open_out.new.self) (g.O.Outside.told c.open_out.new.self)
      (journal_text c.args.node.now.history) c.in_default.ensures;
}

pub returns : goal.returns
returns g c = record {
  ends = c.write_gathered-sink.ensures.ends;
  tells = TellsOut-told c.args.name.now (g.O.Outside.told c.args.outside.now)
      (g.O.Outside.told c.open_out.new.self) (g.O.Outside.told c.close_out.new.self)
      (journal_text c.args.node.now.history) (prints Done (journal_text c.args.node.now.history))
      (g.O.Out.Sink.told c.in-Some.sink) (g.O.Out.Sink.told c.write_gathered-sink.result.0)
      c.write_gathered-sink.result.1 refl c.in-Some.ensures c.write_gathered-sink.ensures.tells
      c.close_out.ensures;
}
