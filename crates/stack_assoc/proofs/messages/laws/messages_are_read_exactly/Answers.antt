use Rattle.stack_assoc.proofs.OfMessages.OneMessage.{message_read}
use Rattle.stack_assoc.proofs.messages.laws.messages_are_read_exactly.Goals as goal

pub returns : goal.returns
returns c = message_read
