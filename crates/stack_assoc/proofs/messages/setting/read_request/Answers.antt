use Rattle.std.proofs.Common.{ℕ, Option, None, false, ap, subst, ◌∙◌}
use Rattle.presentation_profile.specs.Agreements.{mms_of}
use Rattle.stack_assoc.specs.Messages.Meanings.{IsReadAs}
use Rattle.stack_assoc.specs.Messages.Layers.{apdu_at}
use Rattle.stack_assoc.proofs.OfMessages.Exact.{inside-goes, inside-stops}
use Rattle.stack_assoc.proofs.messages.setting.read_request.Goals as goal

pub returns-in-Ok : goal.returns-in-Ok
returns-in-Ok c =
    let read = subst (λ (id : Option ℕ). IsReadAs (apdu_at (record { request_id = id; response_id = None; accepted = false })
    c.args.tsdu.now c.args.body) c.in_ok-apdu.field-0) (c.mms_id.ensures ∙ ap mms_of c.as_slice.ensures)
    c.in_ok-apdu.ensures.exact in
    inside-goes _ _ c.in-Ok.apdu c.in_ok-apdu.field-0 c.read_aarq.result c.in-Ok.is read
    c.read_aarq.ensures

pub returns-in-Err : goal.returns-in-Err
returns-in-Err c =
    let read = subst (λ (id : Option ℕ). IsReadAs (apdu_at (record { request_id = id; response_id = None; accepted = false })
    c.args.tsdu.now c.args.body) c.in_ok-apdu.field-0) (c.mms_id.ensures ∙ ap mms_of c.as_slice.ensures)
    c.in_ok-apdu.ensures.exact in
    inside-stops _ _ c.in-Err.fault c.in_ok-apdu.field-0 c.in-Err.is read
