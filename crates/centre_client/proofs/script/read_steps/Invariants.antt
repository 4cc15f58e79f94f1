use Rattle.std.proofs.Common.{◌≡◌, length}
use Rattle.std.specs.Str.Lines.{lines}
use Rattle.centre_client.specs.NumberedLines.{numbered_from}
use Rattle.centre_client.specs.Scripts.{steps_in}
use Rattle.centre_client.proofs.FirstErrors.{in_front}
use Rattle.centre_client.proofs.script.read_steps.Given as goal

abbrev pub invariant-loop-line : goal.invariant-loop-line
invariant-loop-line l =
    steps_in l.centre l.peer (numbered_from l.number (lines l.text))
    ≡ in_front l.steps (steps_in l.centre l.peer (numbered_from l.next (lines l.rest)))

abbrev pub decreases-loop-line : goal.decreases-loop-line
decreases-loop-line l = length l.rest
