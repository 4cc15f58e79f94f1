-- The first bad line is that of what is left.
use Rattle.std.proofs.Common.{◌≡◌, length}
use Rattle.std.specs.Str.Lines.{lines}
use Rattle.centre_client.specs.LineFaults.{first_fault_in}
use Rattle.centre_client.specs.NumberedLines.{numbered_from}
use Rattle.centre_client.proofs.script.first_fault.Given as goal

abbrev pub invariant-loop-line : goal.invariant-loop-line
invariant-loop-line l =
    first_fault_in l.centre l.peer (numbered_from l.number (lines l.text))
    ≡ first_fault_in l.centre l.peer (numbered_from l.next (lines l.rest))

abbrev pub decreases-loop-line : goal.decreases-loop-line
decreases-loop-line l = length l.rest
