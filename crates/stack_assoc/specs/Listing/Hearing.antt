-- What is told of the messages of a captured stream.
use Rattle.std.specs.Prelude.{ℕ, false, List, [], ◌∷◌, Option, Some, None, unwrap_or, Result, Ok}
use Rattle.std.specs.Prelude.{Err}
use Rattle.tpkt_cotp.specs.Streams.{Message, asks, confirms, gone, tsdu}
use Rattle.presentation_profile.specs.Agreements.{mms_of}
use Rattle.stack_assoc.specs.declared.messages.expecting.Expecting.{Expecting}
use Rattle.stack_assoc.specs.declared.messages.expecting.Side.TheVariants.{Either}
use Rattle.stack_assoc.specs.declared.messages.expecting.Phase.TheVariants.{Associated}
use Rattle.stack_assoc.specs.declared.messages.fault.StackFault.{StackFault}
use Rattle.stack_assoc.specs.declared.messages.heard.Heard.{Heard}
use Rattle.stack_assoc.specs.declared.messages.heard.Heard.TheVariants as heard
use Rattle.stack_assoc.specs.Messages.Messages.{message}
use Rattle.stack_assoc.specs.declared.listing.hearing.ListedMessage.{ListedMessage}
use Rattle.stack_assoc.specs.declared.listing.names.MessageName.TheVariants as names
use Rattle.stack_assoc.specs.Listing.Names.{heard_name}

-- what a TSDU says, or where it breaks a rule first
unfoldable pub message_in : Expecting → List ℕ → Result Heard StackFault
message_in e octets = (message e octets).reading

-- a reader of captures takes the messages of both ends in any order; the id of the context of MMS
-- counts, and is 3 before any is told
abbrev pub expecting : Option ℕ → Expecting
expecting context = record {
  side = Either;
  phase = Associated;
  acse = 1;
  mms = unwrap_or context 3;
  awaited = false;
}

-- the id of the context of MMS that a message tells: an accept the one of its user information, a
-- connect the one that is agreed on
abbrev pub context_in : Heard → Option ℕ
context_in (heard.Connect connecting) = mms_of connecting.contexts
context_in (heard.Accept accepting) = Some accepting.mms
context_in heard.Refuse = None
context_in heard.Finish = None
context_in heard.Disconnect = None
context_in heard.Abort = None
context_in heard.AbortAccept = None
context_in (heard.Pdu pdu) = None
context_in (heard.BadRequest invoke) = None

abbrev pub listing_told_by : Result Heard StackFault → Result ListedMessage StackFault
listing_told_by (Ok h) = Ok (record { name = heard_name h; context = context_in h })
listing_told_by (Err f) = Err f

-- what is told of a message, where this id counts
abbrev pub told_in : Option ℕ → Message → Result ListedMessage StackFault
told_in context (asks request) = Ok (record { name = names.Cr; context = None })
told_in context (confirms confirm) = Ok (record { name = names.Cc; context = None })
told_in context gone = Ok (record { name = names.Dr; context = None })
told_in context (tsdu place octets) = listing_told_by (message_in (expecting context) octets)

abbrev pub context_told : Result ListedMessage StackFault → Option ℕ
context_told (Ok told) = told.context
context_told (Err f) = None

abbrev pub either_of : Option ℕ → Option ℕ → Option ℕ
either_of (Some context) other = Some context
either_of None other = other

-- the id that counts after some messages: the one that the first message tells that tells one
abbrev pub context_of : List Message → Option ℕ
context_of [] = None
context_of (m ∷ ms) = either_of (context_told (told_in None m)) (context_of ms)
