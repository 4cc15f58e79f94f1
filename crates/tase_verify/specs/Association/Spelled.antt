-- The texts of events.
use Rattle.std.specs.Prelude.{List, map}
use Rattle.tase_views.specs.declared.event.EventKind.{EventKind}
use Rattle.texts.specs.Journal.Entries.{IsEvent}
use Rattle.tase_verify.specs.declared.association.answered.AnsweredEvent.{AnsweredEvent}
use Rattle.tase_verify.specs.declared.association.spelled_event.SpelledEvent.{SpelledEvent}

-- each part of the event is one that a word spells
abbrev pub IsToldSpelled : AnsweredEvent → Type 0
IsToldSpelled told = IsEvent told.event

abbrev pub event_told : AnsweredEvent → EventKind
event_told told = told.event

abbrev pub event_spelled : SpelledEvent → EventKind
event_spelled spelled = spelled.event.now

-- the events that are spelled
abbrev pub events_spelled : List SpelledEvent → List EventKind
events_spelled spelled = map event_spelled spelled
