use Rattle.std.proofs.Common.{sym, ◌∙◌}
use Rattle.texts.proofs.OfReports.OutcomeRead.{marked_read}
use Rattle.texts.proofs.reports.reading.outcomes.read_outcome.Goals as goal

pub returns-in-Some-clause-only : goal.returns-in-Some-clause-only
returns-in-Some-clause-only c outcome h e =
    marked_read c.in-Some.digits.now c.read_reason.result c.read_reason.ensures.only outcome h
    (sym c.in-Some.ensures.some ∙ e)
