-- What a transport that stands in a stream will hand out.
use Rattle.std.specs.Prelude.{◌≡◌, ℕ, ◌+◌, ◌-◌, List, length, Option, Some, None, Result, Ok, Err}
use Rattle.tpkt_cotp.specs.declared.fault.CotpFault.{CotpFault}
use Rattle.tpkt_cotp.specs.declared.message.TransportIn.{TransportIn}
use Rattle.tpkt_cotp.specs.Streams.{stream_place}
use Rattle.tpkt_cotp.specs.Seen.{message_seen}
use Rattle.tpkt_cotp.specs.Lines.{Line, IsLineSettled, fed}
use Rattle.tpkt_cotp.specs.Places.{Stream, left, stopped, ended, with_message, stream_from}

abbrev pub unless_stopped : Option CotpFault → Stream → Stream
unless_stopped None stream = stream
unless_stopped (Some f) stream = ended (stopped f)

-- the messages that are yet to be handed out, and the end
abbrev pub stream_of : Line → Stream
stream_of t = unless_stopped t.fault (stream_from t.turn t.start t.place t.held 0 t.unread)

-- where no message is handed out, the next one begins where it began
abbrev pub KeepsStart : Line → Result (Option TransportIn) CotpFault → Line → Type 0
KeepsStart old (Ok (Some m)) new = Unit {0}
KeepsStart old (Ok None) new = new.start ≡ old.start
KeepsStart old (Err f) new = new.start ≡ old.start

-- an answer is the first of what was to be handed out, whatever octets may follow; where none is
-- left, more may be fed
abbrev pub HandsOut : Line → Result (Option TransportIn) CotpFault → Line → Type 0
HandsOut old (Ok (Some m)) new = (more : List ℕ) → stream_of (fed old more)
    ≡ with_message (record { message = message_seen m; place = old.start; next = new.start })
    (stream_of (fed new more))
HandsOut old (Ok None) new = ((more : List ℕ) → stream_of (fed old more) ≡ stream_of (fed new more))
    × (stream_of new ≡ ended (left (stream_place (new.place + length new.unread) - new.start)))
    × IsLineSettled new
HandsOut old (Err f) new = (more : List ℕ) → (stream_of (fed old more) ≡ ended (stopped f))
    × (stream_of (fed new more) ≡ ended (stopped f))
