use Rattle.std.proofs.Common.{Some, sym, ap, ◌∙◌}
use Rattle.plain_text.specs.Words.{words}
use Rattle.mms_data.specs.Text.Texts.{outcome_text}
use Rattle.texts.specs.Reports.ReportWords.{HasOutcomeText}
use Rattle.texts.proofs.OfReports.SoFar.{outcomes-more, all_read, no_item, not_read, some_same}
use Rattle.texts.proofs.reports.reading.read_outcomes.Goals as goal

pub returns-in_default-2-clause-only : goal.returns-in_default-2-clause-only
returns-in_default-2-clause-only c outcomes fine same =
    absurd (no_item outcome_text HasOutcomeText (words c.args.text.now) c.loop-word.outcomes
    (words c.loop-word.rest.now) c.in-Some.word.now (words c.in-Some.after.now)
    c.loop-word.invariant.so_far c.in-Some.ensures.some
    (λ x h e. not_read c.in_default-2.is (c.in_ok-outcome.ensures.only x h e)) outcomes fine same)

pub loop-word-preserved : goal.loop-word-preserved
loop-word-preserved c =
    rw c.in_ok-push.ensures.ok (outcomes-more (words c.args.text.now) c.loop-word.outcomes
    (words c.loop-word.rest.now) c.in-Some.word.now (words c.in-Some.after.now)
    c.in-Some-2.outcome c.loop-word.invariant c.in-Some.ensures.some
    (rw c.in-Some-2.is at c.in_ok-outcome.ensures.lawful)
    (rw c.in-Some-2.is at c.in_ok-outcome.ensures.textual)
    (λ x h e. some_same (sym c.in-Some-2.is ∙ c.in_ok-outcome.ensures.only x h e)))

pub returns-clause-only : goal.returns-clause-only
returns-clause-only c outcomes fine same =
    ap Some (all_read outcome_text HasOutcomeText (words c.args.text.now) c.loop-word.outcomes
    (words c.loop-word.rest.now) c.loop-word.invariant.so_far c.in_default.ensures.none outcomes
    fine same)
