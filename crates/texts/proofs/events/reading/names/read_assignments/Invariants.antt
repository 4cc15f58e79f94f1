-- The names and values so far stand before the words that are still to be read.
use Rattle.std.proofs.Common.{length}
use Rattle.texts.proofs.OfEvents.SoFar.{AssignedSoFar}
use Rattle.texts.proofs.events.reading.names.read_assignments.Given as goal

abbrev pub invariant-loop-word : goal.invariant-loop-word
invariant-loop-word l = AssignedSoFar l.fn.text l.names l.values l.rest

abbrev pub decreases-loop-word : goal.decreases-loop-word
decreases-loop-word l = length l.rest
