use Rattle.std.proofs.Common.{◌+◌, ◌<◌, List, ℕ, false, length, arith}
use Rattle.std.proofs.Common.{ap, sym, subst, ◌∙◌}
use Rattle.std.specs.Str.Lines.{lines}
use Rattle.std.proofs.Math.Seq.{drop-length}
use Rattle.std.proofs.lemmas.List.{length-drop, take_rest}
use Rattle.tase_verify.specs.Cuts.{IsCutAtEnd, TakesFirstLine}
use Rattle.tase_verify.proofs.Cutting.{ArePassed, line_passed, end_found, no_end}
use Rattle.tase_verify.proofs.link_text.cut_at_end.Goals as goal

pub returns-then-is_end_line : goal.returns-then-is_end_line
returns-then-is_end_line c =
    let text = c.args.text.now in
    let place = c.loop-line.place in
    let rest = take_rest text place in
    let there : place < length text =
    omega (arith, c.in-Some.ensures.shorter, ap length rest, length-drop place text) in
    end_found text place c.loop-line.number c.in-Some.line.now c.in-Some.behind.now
    c.loop-line.invariant there (ap lines (sym rest) ∙ c.in-Some.ensures.some)
    (sym c.is_end_line.ensures ∙ c.if-is_end_line.true)

pub loop-line-preserved : goal.loop-line-preserved
loop-line-preserved c =
    let text = c.args.text.now in
    let place = c.loop-line.place in
    let rest = take_rest text place in
    let size = c.first_len-place.result in
    subst (ArePassed text (place + size)) (sym c.saturating_add-number.ensures)
    (line_passed text place c.loop-line.number size c.in-Some.line.now c.in-Some.behind.now
    c.loop-line.invariant (ap lines (sym rest) ∙ c.in-Some.ensures.some)
    (subst (λ (t : List ℕ). TakesFirstLine t size) rest c.first_len-place.ensures)
    (sym c.is_end_line.ensures ∙ c.if-is_end_line.false))

pub returns : goal.returns
returns c =
    let text = c.args.text.now in
    let place = c.loop-line.place in
    subst (λ (t : List ℕ). IsCutAtEnd text text t false c.loop-line.number)
    (sym (take_rest text (length text) ∙ drop-length text))
    (no_end text place c.loop-line.number c.loop-line.invariant
    (ap lines (sym (take_rest text place)) ∙ c.in_default.ensures.none))
