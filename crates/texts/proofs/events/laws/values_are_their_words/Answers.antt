use Rattle.texts.proofs.OfEvents.ValueWords.{value-found, value-read}
use Rattle.texts.proofs.events.laws.values_are_their_words.Goals as goal

pub returns : goal.returns
returns c = λ body flags seconds millis value. (
  λ e. value-found body flags seconds millis value e,
  λ w. value-read body flags seconds millis value w,
)
