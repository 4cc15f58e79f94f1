use Rattle.std.proofs.Common.{◌≡◌, Some, None, option_map, ap, ◌∙◌, arith, rules}
use Rattle.plain_text.specs.Numbers.{number_up_to}
use Rattle.mms_data.specs.declared.outcome.Outcome.TheVariants.{Fail}
use Rattle.mms_data.proofs.OfText.LeafRead.{number-read}
use Rattle.texts.proofs.OfReports.SoFar.{not_read}
use Rattle.texts.proofs.reports.reading.outcomes.read_reason.Goals as goal

pub returns-in_err-reason-clause-only : goal.returns-in_err-reason-clause-only
returns-in_err-reason-clause-only c reason small e =
    let none : number_up_to 255 c.args.digits.now ≡ None = search rules in
    absurd (not_read none (ap (number_up_to 255) e
    ∙ number-read 255 reason (omega (arith, small)) (omega (arith, small))))

pub returns-clause-only : goal.returns-clause-only
returns-clause-only c reason small e =
    let found : Some c.in_ok-reason.reason ≡ number_up_to 255 c.args.digits.now = search rules in
    ap (λ o. option_map Fail o) (found ∙ ap (number_up_to 255) e
    ∙ number-read 255 reason (omega (arith, small)) (omega (arith, small)))
