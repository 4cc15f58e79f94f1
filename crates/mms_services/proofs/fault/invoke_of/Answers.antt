use Rattle.std.proofs.Common.{Ok, Err}
use Rattle.mms_services.proofs.NumberedRead.{numbers_read}
use Rattle.mms_services.proofs.fault.invoke_of.Goals as goal

pub returns-in-Ok : goal.returns-in-Ok
returns-in-Ok c = numbers_read c.args.bytes.now (Ok c.in-Ok.invoke) c.in-Ok.ensures

pub returns-in-Err : goal.returns-in-Err
returns-in-Err c = numbers_read c.args.bytes.now (Err c.in-Err.field-0) c.in-Err.ensures
