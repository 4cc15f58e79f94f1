-- A transport as contracts see it, and where it stands in a stream.
use Rattle.std.specs.Prelude.{◌≡◌, ℕ, ◌+◌, ◌≤◌, List, [], ◌∷◌, ◌++◌, length, Option, Some, None}
use Rattle.std.specs.Prelude.{MatchOption, Result, Ok, Err}
use Rattle.std.specs.Prelude.{◌-◌, drop}
use Rattle.tpkt_cotp.specs.declared.fault.CotpFault.{CotpFault}
use Rattle.tpkt_cotp.specs.declared.limits.TheConstants.{TSDU_LIMIT, TPKT_LIMIT, PIECE_LIMIT}
use Rattle.tpkt_cotp.specs.declared.message.TransportIn.{TransportIn}
use Rattle.tpkt_cotp.specs.declared.turn.Role.{Role}
use Rattle.tpkt_cotp.specs.declared.turn.Turn.{Turn}
use Rattle.tpkt_cotp.specs.declared.turn.Turn.TheVariants as turns
use Rattle.tpkt_cotp.specs.declared.walk.Walk.{Walk}
use Rattle.tpkt_cotp.specs.Streams.{Message, stream_place, Section, held_of, section_octets_of}
use Rattle.tpkt_cotp.specs.Streams.{Opens}
use Rattle.tpkt_cotp.specs.Streams.{IsPartial, SpellsMessages, turn_after, Says, Stops}
use Rattle.tpkt_cotp.specs.Seen.{message_seen}

pub record Line : Type 0 where
  -- what has come before
  pub turn : Turn
  -- the place of the first unread octet, and of the message that it belongs to
  pub place : ℕ
  pub start : ℕ
  -- what has come of a TSDU
  pub held : List ℕ
  -- octets that were fed and not yet looked at as a whole TPKT
  pub unread : List ℕ
  -- the rule that was broken
  pub fault : Option CotpFault

-- a walk over octets as a line: what has come of a TSDU, and the octets from where it stands
abbrev pub line_of : Walk → List ℕ → List ℕ → Line
line_of w held octets = record {
  turn = w.turn;
  place = w.place;
  start = w.start;
  held = held;
  unread = drop w.passed octets;
  fault = w.fault;
}

-- it stands within the octets, and so much of a TSDU has come at most
abbrev pub IsWalkWithin : Walk → List ℕ → List ℕ → Type 0
IsWalkWithin w held octets = (w.passed ≤ length octets) × (length held ≤ TSDU_LIMIT)

-- so many octets of a TSDU at most, and so many unread: less than a TPKT, and a piece
abbrev pub HoldsFew : Line → Type 0
HoldsFew t = (length t.held ≤ TSDU_LIMIT) × (length t.unread ≤ TPKT_LIMIT - 1 + PIECE_LIMIT)

-- no whole TPKT is unread, or the stream has stopped
abbrev pub IsLineSettled : Line → Type 0
IsLineSettled t = (length t.unread ≤ TPKT_LIMIT - 1) × MatchOption t.fault
    (IsPartial t.turn (length t.held) t.unread) (λ _. t.unread ≡ [])

-- these octets were fed, these messages handed out, and the next one has come so far
pub record Reads (role : Role) (heard : List ℕ) (given : List Message) (t : Line) : Type 0 where
  pub whole : List ℕ
  pub pending : List ℕ
  pub sections : List Section
  pub is : heard ≡ whole ++ pending
  pub spelled : SpellsMessages (turns.Opening role) 0 given whole
  pub opens : Opens (turn_after (turns.Opening role) given) sections pending t.unread
  pub turn_is : t.turn ≡ turn_after (turns.Opening role) given
  pub held_is : t.held ≡ held_of sections
  pub start_is : t.start ≡ stream_place (length whole)
  pub place_is : t.place ≡ stream_place (length whole + length (section_octets_of sections))

-- fed these octets, and with these messages handed out
abbrev pub Stands : Role → List ℕ → List Message → Line → Type 0
Stands role heard given t = MatchOption t.fault (Reads role heard given t)
    (λ f. Stops role heard given f × (t.unread ≡ []))

abbrev pub fed_to : Option CotpFault → List ℕ → List ℕ → List ℕ
fed_to None unread piece = unread ++ piece
fed_to (Some f) unread piece = unread

-- a piece behind what is unread; after a fault it is dropped
abbrev pub fed : Line → List ℕ → Line
fed t piece = record t { unread = fed_to t.fault t.unread piece }

-- an answer is right: the next message; or none, where a rest is left; or the fault
abbrev pub IsTransportAnswer : Role → List ℕ → List Message → Result (Option TransportIn) CotpFault
    → Line
    → Type 0
IsTransportAnswer role heard given (Ok (Some m)) t =
    Stands role heard (given ++ message_seen m ∷ []) t
IsTransportAnswer role heard given (Ok None) t = Stands role heard given t
    × ((rest : List ℕ) × Says role heard given rest) × IsLineSettled t
IsTransportAnswer role heard given (Err f) t = Stands role heard given t × Stops role heard given f
    × IsLineSettled t
