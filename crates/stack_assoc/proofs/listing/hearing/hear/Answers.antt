use Rattle.std.proofs.Common.{◌≡◌, ◌∙◌, ap}
use Rattle.std.proofs.lemmas.Result.{IfOk-weaker}
use Rattle.stack_assoc.specs.declared.messages.expecting.Expecting.{Expecting}
use Rattle.stack_assoc.specs.Messages.Meanings.{IsReadAs}
use Rattle.stack_assoc.specs.Messages.Messages.{message}
use Rattle.stack_assoc.specs.Listing.Hearing.{expecting, message_in}
use Rattle.stack_assoc.proofs.OfListing.OneHeard.{heard_is}
use Rattle.stack_assoc.proofs.listing.hearing.hear.Goals as goal

pub returns : goal.returns
returns c = IfOk-weaker c.read_message.result
    (λ read. IsReadAs (message c.expecting.result c.args.tsdu.now) read)
    (λ read. read ≡ message_in (expecting c.args.context) c.args.tsdu.now)
    (λ read is. heard_is c.expecting.result c.args.tsdu.now read is
    ∙ ap (λ (e : Expecting). message_in e c.args.tsdu.now) c.expecting.ensures)
    c.read_message.ensures
