use Rattle.std.proofs.Common.{take}
use Rattle.outside.specs.Sink.{AppendsAll}
use Rattle.texts.specs.Journal.Journals.{journal_text}
use Rattle.commands.proofs.files.journal.write_entries.Given as goal

abbrev pub invariant-loop-place : goal.invariant-loop-place
invariant-loop-place g l =
    AppendsAll (g.K.Sink.told l.fn.sink) (g.K.Sink.told l.sink)
    (journal_text (take l.place l.node.history))
