use Rattle.std.proofs.Common.{◌≡◌, ◌<◌, ◌^◌, length}
use Rattle.std.specs.Str.Lines.{lines}
use Rattle.tase_verify.specs.LinkText.{line_told}
use Rattle.tase_verify.proofs.link_text.first_told.Given as goal

abbrev pub invariant-loop-first : goal.invariant-loop-first
invariant-loop-first l = record {
  counted : l.line < 2 ^ 64;
  read : line_told l.fn.number (lines l.text) ≡ line_told l.line (lines l.rest);
}

abbrev pub decreases-loop-first : goal.decreases-loop-first
decreases-loop-first l = length l.rest
