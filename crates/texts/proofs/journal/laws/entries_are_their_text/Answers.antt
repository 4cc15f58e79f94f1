use Rattle.std.proofs.Common.{ap, ◌∙◌}
use Rattle.texts.specs.Journal.Entries.{entry_in}
use Rattle.texts.proofs.OfJournal.EntryRead.{entry_in-found, entry_in-text}
use Rattle.texts.proofs.journal.laws.entries_are_their_text.Goals as goal

pub returns : goal.returns
returns c = λ line entry. (
  λ e. entry_in-found line entry e,
  λ is. ap entry_in is.0 ∙ entry_in-text entry is.1,
)
