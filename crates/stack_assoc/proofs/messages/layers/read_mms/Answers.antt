use Rattle.stack_assoc.proofs.OfMessages.LayersRead.{pdu-read, pdu-broken}
use Rattle.stack_assoc.proofs.messages.layers.read_mms.Goals as goal

pub returns-in-Ok : goal.returns-in-Ok
returns-in-Ok c = pdu-read c.args.tsdu.now c.args.span c.in-Ok.pdu c.in_ok-pdu.field-0 c.in-Ok.is
    c.in_ok-pdu.ensures.exact

pub returns-in-Err : goal.returns-in-Err
returns-in-Err c = pdu-broken c.args.tsdu.now c.args.span c.in-Err.fault c.in_ok-pdu.field-0
    c.in-Err.is c.in_ok-pdu.ensures.exact c.mms_fault.result c.mms_fault.ensures
