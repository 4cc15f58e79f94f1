use Rattle.texts.proofs.OfEvents.CallPlace.{one_place, one_text, no_call}
use Rattle.texts.proofs.OfEvents.Written.{written-is_read}
use Rattle.texts.proofs.events.laws.written_calls_are_read.Goals as goal

pub returns-clause-read : goal.returns-clause-read
returns-clause-read c call h k = written-is_read call h k

pub returns-clause-one : goal.returns-clause-one
returns-clause-one c text a b x y = one_text text a b x y

pub returns-clause-place : goal.returns-clause-place
returns-clause-place c text a b x y = one_place text a b x y

pub returns-clause-either : goal.returns-clause-either
returns-clause-either c text call place x y = no_call text call place x y
