use Rattle.std.proofs.Common.{◌≡◌, ap, ◌∙◌, false, rules}
use Rattle.std.specs.Str.Lines.{lines}
use Rattle.capture_text.specs.Captures.{is_bad}
use Rattle.capture_text.specs.Pieces.{bad_line_from}
use Rattle.capture_text.proofs.Walking.{good_next}
use Rattle.capture_text.proofs.pieces.first_bad_line.Goals as goal

pub loop-first-preserved : goal.loop-first-preserved
loop-first-preserved c =
    let good : is_bad c.in-Some.first.now ≡ false = search rules in
    record {
      counted = search rules;
      read = rw c.saturating_add-line.ensures
          (c.loop-first.invariant.read
          ∙ ap (bad_line_from c.loop-first.line) c.in-Some.ensures.some
          ∙ good_next c.loop-first.line c.in-Some.first.now (lines c.in-Some.more.now) good);
    }
