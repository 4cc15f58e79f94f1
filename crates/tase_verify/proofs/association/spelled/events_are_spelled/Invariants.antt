-- The events so far are spelled.
use Rattle.std.proofs.Common.{take}
use Rattle.std.specs.List.{All}
use Rattle.texts.specs.Journal.Entries.{IsEvent}
use Rattle.tase_verify.proofs.association.spelled.events_are_spelled.Given as goal

abbrev pub invariant-loop-event : goal.invariant-loop-event
invariant-loop-event l = All IsEvent (take l.event-index l.events)
