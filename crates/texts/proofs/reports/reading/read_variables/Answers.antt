use Rattle.std.proofs.Common.{◌≡◌, length, Some, sym, ap, ◌∙◌, arith}
use Rattle.plain_text.specs.Words.{words}
use Rattle.tase_views.specs.declared.reply.ReportKind.TheVariants.{Variables}
use Rattle.texts.specs.Reports.ReportWords.{told_word, told_of, IsTold}
use Rattle.texts.proofs.OfReports.SoFar.{told-more, told_same, all_told, no_item, not_read, some_same}
use Rattle.texts.proofs.reports.reading.read_variables.Goals as goal

pub returns-in_default-2-clause-only : goal.returns-in_default-2-clause-only
returns-in_default-2-clause-only c names results lawful textual same =
    absurd (no_item told_word IsTold (words c.args.text.now)
    (told_of c.loop-word.names c.loop-word.results) (words c.loop-word.rest.now)
    c.in-Some.word.now (words c.in-Some.after.now) c.loop-word.invariant.so_far
    c.in-Some.ensures.some
    (λ x is e. not_read c.in_default-2.is (c.in_ok-told.ensures.only x is e))
    (told_of names results) (all_told names results textual.0 textual.1) same)

pub loop-word-preserved : goal.loop-word-preserved
loop-word-preserved c =
    rw (c.in_ok-push.ensures.ok, c.in_ok-push-2.ensures.ok) (told-more (words c.args.text.now)
    c.loop-word.names c.loop-word.results (words c.loop-word.rest.now) c.in-Some.word.now
    (words c.in-Some.after.now) c.in-Some-2.told c.loop-word.invariant c.in-Some.ensures.some
    (rw c.in-Some-2.is at c.in_ok-told.ensures.lawful)
    (rw c.in-Some-2.is at c.in_ok-told.ensures.told)
    (λ x is e. some_same (sym c.in-Some-2.is ∙ c.in_ok-told.ensures.only x is e)))

pub returns-then-len-eq0-clause-only : goal.returns-then-len-eq0-clause-only
returns-then-len-eq0-clause-only c names results lawful textual same =
    let t = told_same (words c.args.text.now) c.loop-word.names c.loop-word.results
    (words c.loop-word.rest.now) c.loop-word.invariant c.in_default.ensures.none names results
    lawful.1 textual.0 textual.1 same in
    let few : length c.loop-word.names ≡ 0 = omega (arith, c.len.ensures, c.if-len-eq0.true) in
    absurd (omega (arith, lawful.0, few, ap length t.0))

pub returns-clause-only : goal.returns-clause-only
returns-clause-only c names results lawful textual same =
    let t = told_same (words c.args.text.now) c.loop-word.names c.loop-word.results
    (words c.loop-word.rest.now) c.loop-word.invariant c.in_default.ensures.none names results
    lawful.1 textual.0 textual.1 same in
    ap Some (c.new.ensures ∙ (λ i. Variables (t.0 i) (t.1 i)))
