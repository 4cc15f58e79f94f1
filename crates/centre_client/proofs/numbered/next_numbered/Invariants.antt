use Rattle.std.proofs.Common.{◌≡◌, ◌<◌, ◌≤◌, ◌^◌, length}
use Rattle.std.specs.Str.Lines.{lines}
use Rattle.centre_client.specs.NumberedLines.{numbered_from}
use Rattle.centre_client.proofs.numbered.next_numbered.Given as goal

abbrev pub invariant-loop-line : goal.invariant-loop-line
invariant-loop-line l = record {
  counted : l.number < 2 ^ 64;
  within : length l.rest ≤ length l.text;
  read : numbered_from l.first (lines l.text) ≡ numbered_from l.number (lines l.rest);
}

abbrev pub decreases-loop-line : goal.decreases-loop-line
decreases-loop-line l = length l.rest
