use Rattle.std.proofs.Common.{true, sym, subst}
use Rattle.commands.specs.Io.Saying.{duty_to_say}
use Rattle.commands.specs.Io.Runs.{IsRun}
use Rattle.tase_tool.proofs.Telling.{said_of_pdu, said_of_fault}
use Rattle.tase_tool.proofs.decoding.decode_pdu.Goals as goal

pub returns-in-Ok-Ok : goal.returns-in-Ok-Ok
returns-in-Ok-Ok g c =
    subst (λ said. IsRun (duty_to_say true said) (g.O.Outside.told c.args.outside.now)
    (g.O.Outside.told c.tell_pdu.new.outside) c.tell_pdu.result)
    (sym (said_of_pdu c.args.octets.now c.in-Ok-Ok.pdu
    (rw c.in-Ok-Ok.field-0-is at c.in-Ok-Ok.ensures.exact)))
    (rw c.in-Ok-Ok.pdu-is at c.tell_pdu.ensures)

pub returns-in-Ok-Err : goal.returns-in-Ok-Err
returns-in-Ok-Err g c =
    subst (λ said. IsRun (duty_to_say true said) (g.O.Outside.told c.args.outside.now)
    (g.O.Outside.told c.tell_fault.new.outside) c.tell_fault.result)
    (sym (said_of_fault c.args.octets.now c.in-Ok-Err.fault
    (rw c.in-Ok-Err.field-0-is at c.in-Ok-Err.ensures.exact)))
    (rw c.in-Ok-Err.fault-is at c.tell_fault.ensures)
