-- The events so far are spelled.
use Rattle.std.proofs.Common.{◌≡◌, take}
use Rattle.std.specs.Prelude.{map}
use Rattle.tase_verify.specs.Association.Spelled.{event_told, events_spelled}
use Rattle.tase_verify.proofs.association.spelled.spell_events.Given as goal

abbrev pub invariant-loop-event : goal.invariant-loop-event
invariant-loop-event l = events_spelled l.spelled.items ≡ take l.event-index l.events
