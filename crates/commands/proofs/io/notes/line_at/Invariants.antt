use Rattle.std.proofs.Common.{length}
use Rattle.commands.proofs.io.notes.line_at.Given as goal

abbrev pub decreases-loop-first : goal.decreases-loop-first
decreases-loop-first l = length l.rest
