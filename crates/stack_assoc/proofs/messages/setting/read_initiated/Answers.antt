use Rattle.stack_assoc.proofs.OfMessages.Exact.{inside-answers, inside-stops}
use Rattle.stack_assoc.proofs.messages.setting.read_initiated.Goals as goal

pub returns-in-Ok : goal.returns-in-Ok
returns-in-Ok c = inside-answers _ _ c.in-Ok.pdu c.in_ok-pdu.field-0 c.accepting.result c.in-Ok.is
    c.in_ok-pdu.ensures c.accepting.ensures

pub returns-in-Err : goal.returns-in-Err
returns-in-Err c = inside-stops _ _ c.in-Err.fault c.in_ok-pdu.field-0 c.in-Err.is
    c.in_ok-pdu.ensures
