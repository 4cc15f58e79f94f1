use Rattle.std.proofs.Common.{ℕ, Option, None, true, subst}
use Rattle.stack_assoc.specs.Messages.Meanings.{IsReadAs}
use Rattle.stack_assoc.specs.Messages.Layers.{apdu_at}
use Rattle.stack_assoc.proofs.OfMessages.Exact.{inside-goes, inside-stops}
use Rattle.stack_assoc.proofs.messages.setting.read_response.Goals as goal

pub returns-in-Ok : goal.returns-in-Ok
returns-in-Ok c =
    let read = subst (λ (id : Option ℕ). IsReadAs (apdu_at (record { request_id = None; response_id = id; accepted = true })
    c.args.tsdu.now c.args.body) c.in_ok-apdu.field-0) c.offered_by.ensures
    c.in_ok-apdu.ensures.exact in
    inside-goes _ _ c.in-Ok.apdu c.in_ok-apdu.field-0 c.read_aare.result c.in-Ok.is read
    c.read_aare.ensures

pub returns-in-Err : goal.returns-in-Err
returns-in-Err c =
    let read = subst (λ (id : Option ℕ). IsReadAs (apdu_at (record { request_id = None; response_id = id; accepted = true })
    c.args.tsdu.now c.args.body) c.in_ok-apdu.field-0) c.offered_by.ensures
    c.in_ok-apdu.ensures.exact in
    inside-stops _ _ c.in-Err.fault c.in_ok-apdu.field-0 c.in-Err.is read
