use Rattle.stack_assoc.specs.Messages.Setting.{connect_at}
use Rattle.stack_assoc.proofs.OfMessages.Exact.{inside-goes, inside-stops}
use Rattle.stack_assoc.proofs.messages.setting.read_connect.Goals as goal

pub returns-in-Ok : goal.returns-in-Ok
unfolding connect_at
returns-in-Ok c = inside-goes _ _ c.in-Ok.ppdu c.in_ok-ppdu.field-0 c.read_offers.result c.in-Ok.is
    c.in_ok-ppdu.ensures.exact c.read_offers.ensures

pub returns-in-Err : goal.returns-in-Err
unfolding connect_at
returns-in-Err c = inside-stops _ _ c.in-Err.fault c.in_ok-ppdu.field-0 c.in-Err.is
    c.in_ok-ppdu.ensures.exact
