use Rattle.std.proofs.lemmas.Result.{err_from_is_err_and}
use Rattle.mms_data.specs.declared.data.octets.TheConstants.{MOST_DEPTH}
use Rattle.mms_data.specs.Text.TextRead.{BreaksDatum, BreaksBefore}
use Rattle.mms_data.proofs.OfText.TextLevels.{halts_as}
use Rattle.mms_data.proofs.OfText.TextBreaks.{datum_breaks, after_breaks, some_left}
use Rattle.mms_data.proofs.text.data_text.whole.Goals as goal

pub returns-in_err-value-clause-fault : goal.returns-in_err-value-clause-fault
returns-in_err-value-clause-fault c =
    let p = err_from_is_err_and c.from_residual.result c.from_residual.ensures.1 in
    let os = c.args.text.now in
    rw (p.1, p.2) (halts_as c.in_err-value.field-0.0 (λ left. BreaksDatum MOST_DEPTH os left)
    (λ left. BreaksBefore os left) (datum_breaks os) c.in_err-value.ensures.fault)

pub returns-else-is_empty-clause-fault : goal.returns-else-is_empty-clause-fault
returns-else-is_empty-clause-fault c =
    let rest = c.in_ok-value.rest.now in
    after_breaks c.args.text.now c.in_ok-value.value rest c.in_ok-value.ensures.found
    (some_left rest c.is_empty.result c.is_empty.ensures c.if-is_empty.false)
