use Rattle.stack_assoc.proofs.OfMessages.LayersRead.{spdu-read, spdu-broken}
use Rattle.stack_assoc.proofs.messages.layers.read_session.Goals as goal

pub returns-in-Ok-clause-exact : goal.returns-in-Ok-clause-exact
returns-in-Ok-clause-exact c =
    let e = c.in_ok-spdu.ensures in
    spdu-read c.args.tsdu.now c.in-Ok.spdu c.in_ok-spdu.field-0 c.in-Ok.is e.found e.only e.fault

pub returns-in-Err-clause-exact : goal.returns-in-Err-clause-exact
returns-in-Err-clause-exact c =
    let e = c.in_ok-spdu.ensures in
    spdu-broken c.args.tsdu.now c.in-Err.fault c.in_ok-spdu.field-0 c.in-Err.is e.only e.fault
    c.fault_of.result c.fault_of.ensures
