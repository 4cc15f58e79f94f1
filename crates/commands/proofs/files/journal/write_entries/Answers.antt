use Rattle.std.proofs.Common.{arith}
use Rattle.commands.proofs.OfFiles.Journals.{line_written, journal_stopped}
use Rattle.commands.proofs.files.journal.write_entries.Goals as goal

pub loop-place-preserved : goal.loop-place-preserved
loop-place-preserved g c =
    line_written c.args.node.now.history c.loop-place.place (omega arith)
    (g.K.Sink.told c.args.sink.now) (g.K.Sink.told c.loop-place.sink)
    (g.K.Sink.told c.write_entry.new.sink) c.loop-place.invariant
    (rw c.in-Done.is at c.write_entry.ensures.tells)

pub returns-in_default : goal.returns-in_default
returns-in_default g c = record {
  ends = c.write_entry.ensures.ends;
  tells = journal_stopped c.args.node.now.history c.loop-place.place (omega arith)
      (g.K.Sink.told c.args.sink.now) (g.K.Sink.told c.loop-place.sink)
      (g.K.Sink.told c.write_entry.new.sink) c.loop-place.invariant c.write_entry.result
      c.write_entry.ensures.ends c.in_default.not-Done c.write_entry.ensures.tells;
}
