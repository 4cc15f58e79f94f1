use Rattle.texts.specs.Events.CallWords.{AreCallWords}
use Rattle.texts.proofs.OfEvents.Breaking.{one_break}
use Rattle.texts.proofs.OfEvents.OneCall.{one_call}
use Rattle.texts.proofs.events.laws.call_words_have_one_reading.Goals as goal

pub returns-clause-one : goal.returns-clause-one
returns-clause-one c words a b x y = one_call words a b x y

pub returns-clause-count : goal.returns-clause-count
returns-clause-count c words a b x y = one_break AreCallWords words a b x y
