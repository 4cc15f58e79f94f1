use Rattle.texts.proofs.OfEvents.PlacesOfWords.{words_from-place}
use Rattle.texts.proofs.events.laws.places_are_of_words.Goals as goal

pub returns : goal.returns
returns c = λ text n. words_from-place text n
