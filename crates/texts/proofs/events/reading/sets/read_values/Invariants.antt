-- The values so far stand before the words that are still to be read.
use Rattle.std.proofs.Common.{length}
use Rattle.texts.proofs.OfEvents.SetWords.{ValuesSoFar}
use Rattle.texts.proofs.events.reading.sets.read_values.Given as goal

abbrev pub invariant-loop-word : goal.invariant-loop-word
invariant-loop-word l = ValuesSoFar l.fn.text l.values l.rest

abbrev pub decreases-loop-word : goal.decreases-loop-word
decreases-loop-word l = length l.rest
