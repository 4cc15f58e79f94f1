use Rattle.stack_assoc.specs.Messages.Messages.{message}
use Rattle.stack_assoc.proofs.OfMessages.Exact.{inside-goes, inside-stops}
use Rattle.stack_assoc.proofs.messages.message.read_message.Goals as goal

pub returns-in-Ok : goal.returns-in-Ok
unfolding message
returns-in-Ok c = inside-goes _ _ c.in-Ok.spdu c.in_ok-spdu.field-0 c.read_in_turn.result c.in-Ok.is
    c.in_ok-spdu.ensures.exact c.read_in_turn.ensures

pub returns-in-Err : goal.returns-in-Err
unfolding message
returns-in-Err c = inside-stops _ _ c.in-Err.fault c.in_ok-spdu.field-0 c.in-Err.is
    c.in_ok-spdu.ensures.exact
