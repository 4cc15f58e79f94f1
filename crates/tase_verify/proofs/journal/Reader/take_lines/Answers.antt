use Rattle.std.proofs.Common.{◌≡◌, ℕ, Bool, true, ◌||◌, refl, sym, ap, subst, ◌∙◌}
use Rattle.std.specs.Str.Lines.{lines}
use Rattle.tase_verify.specs.JournalIn.{is_ended, has_lines, past_with_line, past_of_lines}
use Rattle.tase_verify.specs.Reading.{past_of, TakesLine}
use Rattle.tase_verify.proofs.Taking.{line_taken, gone_on}
use Rattle.tase_verify.proofs.journal.Reader.take_lines.Goals as goal

pub loop-line-preserved : goal.loop-line-preserved
loop-line-preserved c =
    let old = c.loop-line.self in
    let new = c.take_line.new.self in
    let ended = is_ended c.args.text.now in
    let line = c.in-Some.line.now in
    let more = lines c.in-Some.more.now in
    let whole : c.is_whole.result ≡ (has_lines more || ended) =
    c.is_whole.ensures ∙ ap (λ (b : Bool). has_lines more || b) c.is_ended-ended.ensures in
    let takes : TakesLine old new
    (past_with_line old.node.setup (past_of old) (has_lines more || ended) line) true =
    subst (λ (w : Bool).
    TakesLine old new (past_with_line old.node.setup (past_of old) w line) true) whole
    (subst (λ (t : Bool).
    TakesLine old new (past_with_line old.node.setup (past_of old) c.is_whole.result line) t)
    c.if-not-branch.false c.in_ok-take_line.ensures) in
    record {
      on = gone_on c.args.self.now old new c.loop-line.invariant.on (takes.on refl);
      read = c.loop-line.invariant.read
          ∙ ap (past_of_lines old.node.setup ended (past_of old) c.loop-line.number)
          c.in-Some.ensures.some
          ∙ line_taken old new ended line more c.loop-line.number takes
          ∙ ap (λ (n : ℕ). past_of_lines new.node.setup ended (past_of new) n more)
          (sym c.saturating_add-number.ensures);
    }
