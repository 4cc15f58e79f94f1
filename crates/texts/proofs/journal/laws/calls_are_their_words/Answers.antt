use Rattle.texts.proofs.OfJournal.CallRead.{call_in-found, call_in-words}
use Rattle.texts.proofs.journal.laws.calls_are_their_words.Goals as goal

pub returns : goal.returns
returns c = λ words call. (
  λ e. call_in-found words call e,
  λ s. call_in-words words call s,
)
