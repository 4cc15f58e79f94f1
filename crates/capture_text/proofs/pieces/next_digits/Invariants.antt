use Rattle.std.proofs.Common.{◌≡◌, length}
use Rattle.std.specs.Str.Lines.{lines}
use Rattle.capture_text.specs.Captures.{joined}
use Rattle.capture_text.specs.Pieces.{HasNoBadLine}
use Rattle.capture_text.proofs.pieces.next_digits.Given as goal

abbrev pub invariant-loop-first : goal.invariant-loop-first
invariant-loop-first l = record {
  good : HasNoBadLine l.rest;
  octets : joined (lines l.text) ≡ joined (lines l.rest);
}

abbrev pub decreases-loop-first : goal.decreases-loop-first
decreases-loop-first l = length l.rest
