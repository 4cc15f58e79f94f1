use Rattle.stack_assoc.specs.declared.messages.heard.Heard.TheVariants as heard
use Rattle.stack_assoc.proofs.OfMessages.Exact.{just_read}
use Rattle.stack_assoc.proofs.messages.message.read_inside.Goals as goal

pub returns-in-Refuse : goal.returns-in-Refuse
returns-in-Refuse c = rw c.in-Refuse.is (just_read heard.Refuse)

pub returns-in-Finish : goal.returns-in-Finish
returns-in-Finish c = rw c.in-Finish.is (just_read heard.Finish)

pub returns-in-Disconnect : goal.returns-in-Disconnect
returns-in-Disconnect c = rw c.in-Disconnect.is (just_read heard.Disconnect)

pub returns-in-Abort : goal.returns-in-Abort
returns-in-Abort c = rw c.in-Abort.is (just_read heard.Abort)

pub returns : goal.returns
returns c = rw c.in-AbortAccept.is (just_read heard.AbortAccept)
