use Rattle.std.proofs.Common.{◌≡◌, ◌++◌, take}
use Rattle.texts.specs.Journal.Journals.{journal_text}
use Rattle.tase_resume.proofs.writing.put_entries.Given as goal

abbrev pub invariant-loop-entry : goal.invariant-loop-entry
invariant-loop-entry l =
    l.out.items ≡ l.initial.out.items ++ journal_text (take l.entry-index l.entries)
