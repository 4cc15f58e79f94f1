-- The events so far are spelled.
use Rattle.std.proofs.Common.{◌≡◌, take}
use Rattle.std.specs.Prelude.{map}
use Rattle.tase_verify.specs.Association.Spelled.{event_told, events_spelled}
use Rattle.tase_verify.proofs.association.spelled.spell_answered.Given as goal

abbrev pub invariant-loop-told : goal.invariant-loop-told
invariant-loop-told l = events_spelled l.spelled.items ≡ map event_told (take l.told-index l.answered)
