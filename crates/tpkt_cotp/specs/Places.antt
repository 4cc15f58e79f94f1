-- A whole stream: its messages, each with the places where it stands, and how it ends.
use Rattle.std.specs.Prelude.{◌≡◌, ℕ, zero, suc, ◌+◌, ◌-◌, List, [], ◌∷◌, ◌++◌, length, map}
use Rattle.std.specs.Prelude.{Option, Some, None, Ok, Err}
use Rattle.tpkt_cotp.specs.declared.fault.CotpFault.{CotpFault}
use Rattle.tpkt_cotp.specs.declared.turn.Role.{Role}
use Rattle.tpkt_cotp.specs.declared.turn.Turn.{Turn}
use Rattle.tpkt_cotp.specs.declared.turn.Turn.TheVariants as turns
use Rattle.tpkt_cotp.specs.Tpdus.{Tpkt}
use Rattle.tpkt_cotp.specs.Readings.{Read, tpkt_in}
use Rattle.tpkt_cotp.specs.Streams.{Message, stream_place, message_of, part_after, SpellsMessage}
use Rattle.tpkt_cotp.specs.Streams.{BreaksRule, IsRest, turn_after}

-- a message, the place of its first octet, and of the octet behind its last
pub record Placed : Type 0 where
  pub message : Message
  pub place : ℕ
  pub next : ℕ

-- so many octets are left, which are no whole message and break no rule; or a rule is broken
pub data End : Type 0 where
  left : ℕ → End
  stopped : CotpFault → End

pub record Stream : Type 0 where
  pub messages : List Placed
  pub end : End

abbrev pub messages_of : List Placed → List Message
messages_of placed = map (λ p. p.message) placed

-- the octets from a place on are these messages, one after another: the next one begins where the
-- octets of this one end
abbrev pub SpellsPlaced : Turn → ℕ → List Placed → List ℕ → Type 0
SpellsPlaced turn at [] octets = octets ≡ []
SpellsPlaced turn at (p ∷ ps) octets = (first : List ℕ) × (more : List ℕ)
    × (octets ≡ first ++ more) × SpellsMessage turn at p.message first
    × (p.place ≡ stream_place at) × (p.next ≡ stream_place (at + length first))
    × SpellsPlaced turns.Transfer (at + length first) ps more

-- what stands behind the messages, from a place on
abbrev pub EndsWith : Turn → ℕ → List ℕ → End → Type 0
EndsWith turn at rest (left count) = IsRest turn at rest
    × (count ≡ stream_place (at + length rest) - stream_place at)
EndsWith turn at rest (stopped f) = BreaksRule turn at rest f

-- all octets of a stream are this: messages where they stand, and the end behind them
pub record IsStream (role : Role) (octets : List ℕ) (stream : Stream) : Type 0 where
  pub whole : List ℕ
  pub rest : List ℕ
  pub is : octets ≡ whole ++ rest
  pub spelled : SpellsPlaced (turns.Opening role) 0 stream.messages whole
  pub ends : EndsWith (turn_after (turns.Opening role) (messages_of stream.messages))
      (length whole) rest stream.end

-- no message, and this end
abbrev pub ended : End → Stream
ended end = record { messages = []; end = end }

-- one message before the others
abbrev pub with_message : Placed → Stream → Stream
with_message p s = record s { messages = p ∷ s.messages }

-- how a stream goes on behind a TPKT: from where its message begins, where the next TPKT begins,
-- and with what is held of a TSDU
abbrev pub GoesBehind : Type 0
GoesBehind = ℕ → ℕ → List ℕ → Stream

-- the TPKT ends a message, or it doesn't
abbrev pub behind_tpkt : ℕ → ℕ → List ℕ → GoesBehind → Option Message → Stream
behind_tpkt start next held goes None = goes start next held
behind_tpkt start next held goes (Some m) =
    with_message (record { message = m; place = start; next = next }) (goes next next [])

-- by what stands at a place: a TPKT, none that is whole, or a fault
abbrev pub by_tpkt : ℕ → ℕ → List ℕ → List ℕ → (Tpkt → GoesBehind) → Read Tpkt → Stream
by_tpkt start place held octets goes (Ok (Some p)) =
    behind_tpkt start (stream_place (place + p.size)) (part_after held p.tpdu) (goes p)
    (message_of start held p.tpdu)
by_tpkt start place held octets goes (Ok None) =
    ended (left (stream_place (place + length octets) - start))
by_tpkt start place held octets goes (Err f) =
    ended (stopped (record { place = stream_place (place + f.place); why = f.why }))

-- how a stream goes on: what has come before, where its message begins, the place of the octets,
-- what is held of a TSDU; so many of the octets are passed over
unfoldable pub stream_from : Turn → ℕ → ℕ → List ℕ → ℕ → List ℕ → Stream
stream_from turn start place held passed [] =
    ended (left (stream_place (place + 0) - start))
stream_from turn start place held (suc passed) (_ ∷ octets) =
    stream_from turn start place held passed octets
stream_from turn start place held zero (o ∷ octets) =
    by_tpkt start place held (o ∷ octets)
    (λ p start next held. stream_from turns.Transfer start next held (p.size - 1) octets)
    (tpkt_in turn (length held) (o ∷ octets))

-- all octets of a stream
abbrev pub stream_in : Role → List ℕ → Stream
stream_in role octets = stream_from (turns.Opening role) 0 0 [] 0 octets
