use Rattle.std.proofs.Common.{◌≡◌, length, map}
use Rattle.std.specs.Str.Lines.{lines}
use Rattle.commands.specs.Load.Tallies.{shown_line}
use Rattle.commands.specs.Load.Tallies as own
use Rattle.commands.proofs.OfLoad.SoFar.{with_lines}
use Rattle.commands.proofs.load.tally.tally_of.Given as goal

abbrev pub invariant-loop-line : goal.invariant-loop-line
invariant-loop-line l =
    with_lines l.tally (map shown_line (lines l.rest)) ≡ own.tally_of l.shown

abbrev pub decreases-loop-line : goal.decreases-loop-line
decreases-loop-line l = length l.rest
