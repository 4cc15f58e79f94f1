use Rattle.std.proofs.Common.{◌≡◌, ◌-◌, length, Ok, Err, ap, subst, arith}
use Rattle.mms_data.specs.Text.TextRead.{BreaksAt}
use Rattle.mms_data.proofs.OfText.TextBreaks.{lawful, read_only, one_place}
use Rattle.mms_data.proofs.text.data_text.read_data_text.Goals as goal

pub returns-in-Ok-clause-lawful : goal.returns-in-Ok-clause-lawful
returns-in-Ok-clause-lawful c =
    let h = c.in-Ok.ensures.found.lawful in (lawful c.in-Ok.value h, h)

pub returns-in-Ok-clause-only : goal.returns-in-Ok-clause-only
returns-in-Ok-clause-only c d h e =
    ap Ok (read_only c.args.text.now c.in-Ok.value c.in-Ok.ensures.found d h e)

pub returns-in-Err-Bad-clause-only : goal.returns-in-Err-Bad-clause-only
returns-in-Err-Bad-clause-only c d h e =
    let whole = rw c.in-Err-Bad.field-0-is at c.in-Err-Bad.ensures in
    let left = c.in-Err-Bad.left in
    let k : BreaksAt c.args.text.now (length c.args.text.now - left) =
    whole.fault (length c.args.text.now - left) (omega (arith, whole.within)) in
    absurd (k.unspelled d h e)

pub returns-in-Err-Bad-clause-fault : goal.returns-in-Err-Bad-clause-fault
returns-in-Err-Bad-clause-fault c place =
    let whole = rw c.in-Err-Bad.field-0-is at c.in-Err-Bad.ensures in
    let os = c.args.text.now in
    let here = length os - c.in-Err-Bad.left in
    let k : BreaksAt os here = whole.fault here (omega (arith, whole.within)) in (
      λ e. let same : here ≡ place = cc in subst (λ p. BreaksAt os p) same k,
      λ b. ap Err (one_place os here place k b),
    )
