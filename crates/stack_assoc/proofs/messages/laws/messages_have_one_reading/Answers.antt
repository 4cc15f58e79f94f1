use Rattle.stack_assoc.proofs.OfMessages.OneMessage.{one_message}
use Rattle.stack_assoc.proofs.messages.laws.messages_have_one_reading.Goals as goal

pub returns : goal.returns
returns c = one_message
