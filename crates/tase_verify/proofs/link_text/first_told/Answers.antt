use Rattle.std.proofs.Common.{◌≡◌, ap, ◌∙◌, true, rules}
use Rattle.std.specs.Str.Lines.{lines}
use Rattle.plain_text.specs.Lines.{is_skipped}
use Rattle.tase_verify.specs.LinkText.{line_told}
use Rattle.tase_verify.proofs.Cutting.{skipped_next}
use Rattle.tase_verify.proofs.link_text.first_told.Goals as goal

pub loop-first-preserved : goal.loop-first-preserved
loop-first-preserved c =
    let skipped : is_skipped c.in-Some.first.now ≡ true = search rules in
    record {
      counted = search rules;
      read = rw c.saturating_add-line.ensures
          (c.loop-first.invariant.read
          ∙ ap (line_told c.loop-first.line) c.in-Some.ensures.some
          ∙ skipped_next c.loop-first.line c.in-Some.first.now (lines c.in-Some.more.now)
          skipped);
    }
