-- The events of an association, with the answers of the node.
use Rattle.std.specs.Prelude.{List, [], ◌∷◌, ◌++◌, if◌then◌else◌}
use Rattle.sbo_device.specs.declared.key.Key.{Key}
use Rattle.tase_views.specs.declared.event.Entry.{Entry}
use Rattle.tase_views.specs.Setup.{Setup}
use Rattle.tase_views.specs.History.{Past, is_key, key_at}
use Rattle.tase_views.specs.Outcomes.{answer_of}
use Rattle.tase_verify.specs.declared.association.answered.AnsweredEvent.{AnsweredEvent}

-- the event of an entry, with its answer behind this past
abbrev pub answered_at : Setup → Past → Entry → AnsweredEvent
answered_at setup past entry = record {
  event = entry.event;
  answer = answer_of setup past entry.who entry.event;
}

-- the events of an association, the oldest first, each with its answer behind the past before it
abbrev pub answered_in : Setup → Key → Past → List AnsweredEvent
answered_in setup key [] = []
answered_in setup key (entry ∷ past) =
    if is_key key (key_at entry.event past entry.who)
    then answered_in setup key past ++ answered_at setup past entry ∷ []
    else answered_in setup key past
