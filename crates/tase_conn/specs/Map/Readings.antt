-- What a text tells the called end of an association: the messages of its stream, and the rule that
-- it breaks behind them, if it breaks one.
use Rattle.std.specs.Prelude.{ℕ, List, [], ◌∷◌, ◌++◌, Option, Some, None, Result, Ok, Err}
use Rattle.tpkt_cotp.specs.Places.{End, left, stopped, Stream, messages_of, stream_in}
use Rattle.tpkt_cotp.specs.Streams.{Message, asks, confirms, tsdu}
use Rattle.tpkt_cotp.specs.Streams as transport
use Rattle.stack_assoc.specs.declared.messages.fault.StackFault.{StackFault}
use Rattle.stack_assoc.specs.declared.messages.heard.Heard.{Heard}
use Rattle.stack_assoc.specs.Messages.Messages.{message}
use Rattle.stack_assoc.specs.Arrivals.{Arrival, asked, confirmed, gone, heard, called, end_of}
use Rattle.stack_assoc.specs.Expectations.{expecting_after}
use Rattle.stack_assoc.specs.Tellings.{Tells, StopsTelling, transport_fault}

pub record Reading : Type 0 where
  pub told : List Arrival
  pub broken : Option StackFault

-- what has come in a TSDU that was read, or the rule that it breaks first
abbrev pub arrival_heard : Result Heard StackFault → Result Arrival StackFault
arrival_heard (Ok h) = Ok (heard h)
arrival_heard (Err fault) = Err fault

-- what has come in a message of the transport behind these, or the rule that it breaks first
abbrev pub arrival_in : List Arrival → Message → Result Arrival StackFault
arrival_in before (asks request) = Ok (asked request)
arrival_in before (confirms confirm) = Ok (confirmed confirm)
arrival_in before transport.gone = Ok gone
arrival_in before (tsdu place octets) =
    arrival_heard (message (expecting_after called before) octets).reading

-- what has come, and the others behind it; or a broken rule, behind which nothing is told
abbrev pub with_arrival : (Arrival → Reading) → Result Arrival StackFault → Reading
with_arrival others (Ok arrival) =
    record (others arrival) { told = arrival ∷ (others arrival).told }
with_arrival others (Err fault) = record { told = []; broken = Some fault }

-- what messages of the transport tell behind these, where this rule, if any, is broken behind all
-- of them
abbrev pub reading_behind : List Arrival → Option StackFault → List Message → Reading
reading_behind before broken [] = record { told = []; broken = broken }
reading_behind before broken (m ∷ ms) =
    with_arrival (λ arrival. reading_behind (before ++ arrival ∷ []) broken ms)
    (arrival_in before m)

-- the rule of the transport that a stream breaks at its end
abbrev pub broken_at_end : End → Option StackFault
broken_at_end (left count) = None
broken_at_end (stopped fault) = Some (transport_fault fault)

-- what the messages of a stream tell
abbrev pub reading_in : Stream → Reading
reading_in stream = reading_behind [] (broken_at_end stream.end) (messages_of stream.messages)

-- the one thing that octets tell
unfoldable pub reading_of : List ℕ → Reading
reading_of octets = reading_in (stream_in (end_of called) octets)

-- octets tell this
abbrev pub TellsReading : List ℕ → List Arrival → Option StackFault → Type 0
TellsReading octets told None = (rest : List ℕ) × Tells called octets told rest
TellsReading octets told (Some fault) = StopsTelling called octets told fault
