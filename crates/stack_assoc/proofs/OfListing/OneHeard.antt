-- What was read is the one thing that octets say.
use Rattle.std.proofs.Common.{◌≡◌, ℕ, List, Result}
use Rattle.stack_assoc.specs.declared.messages.expecting.Expecting.{Expecting}
use Rattle.stack_assoc.specs.declared.messages.fault.StackFault.{StackFault}
use Rattle.stack_assoc.specs.declared.messages.heard.Heard.{Heard}
use Rattle.stack_assoc.specs.Messages.Meanings.{IsReadAs}
use Rattle.stack_assoc.specs.Messages.Messages.{message}
use Rattle.stack_assoc.proofs.OfMessages.OneMeaning.{read_alike}
use Rattle.stack_assoc.proofs.OfMessages.OneMessage.{message_read}
use Rattle.stack_assoc.specs.Listing.Hearing.{message_in}

pub heard_is : (e : Expecting) (tsdu : List ℕ) (read : Result Heard StackFault)
    → IsReadAs (message e tsdu) read → read ≡ message_in e tsdu
unfolding message_in
heard_is e tsdu read is =
    read_alike (message e tsdu) read (message e tsdu).reading is (message_read e tsdu)
