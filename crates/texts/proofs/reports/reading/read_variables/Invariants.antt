-- The names and the outcomes so far stand before the words that are still to be read.
use Rattle.std.proofs.Common.{length}
use Rattle.plain_text.specs.Words.{words}
use Rattle.texts.proofs.OfReports.SoFar.{ToldSoFar}
use Rattle.texts.proofs.reports.reading.read_variables.Given as goal

abbrev pub invariant-loop-word : goal.invariant-loop-word
invariant-loop-word l = ToldSoFar (words l.fn.text) l.names l.results (words l.rest)

abbrev pub decreases-loop-word : goal.decreases-loop-word
decreases-loop-word l = length l.rest
