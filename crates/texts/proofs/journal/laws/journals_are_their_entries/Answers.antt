use Rattle.texts.proofs.OfJournal.EntryRead.{journal_lines, journal_read, same_journal}
use Rattle.texts.proofs.journal.laws.journals_are_their_entries.Goals as goal

pub returns-clause-lines : goal.returns-clause-lines
returns-clause-lines c entries all = journal_lines entries all

pub returns-clause-read : goal.returns-clause-read
returns-clause-read c entries all = journal_read entries all

pub returns-clause-one : goal.returns-clause-one
returns-clause-one c a b all each e = same_journal a b all each e
