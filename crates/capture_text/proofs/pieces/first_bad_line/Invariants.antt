use Rattle.std.proofs.Common.{◌≡◌, ◌<◌, ◌^◌, length}
use Rattle.std.specs.Str.Lines.{lines}
use Rattle.capture_text.specs.Pieces.{bad_line_from}
use Rattle.capture_text.proofs.pieces.first_bad_line.Given as goal

abbrev pub invariant-loop-first : goal.invariant-loop-first
invariant-loop-first l = record {
  counted : l.line < 2 ^ 64;
  read : bad_line_from 1 (lines l.text) ≡ bad_line_from l.line (lines l.rest);
}

abbrev pub decreases-loop-first : goal.decreases-loop-first
decreases-loop-first l = length l.rest
