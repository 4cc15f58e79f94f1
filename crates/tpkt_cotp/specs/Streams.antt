-- What a stream says, and where it stops: messages as they stand in TPKTs, one after another.
use Rattle.std.specs.Prelude.{◌≡◌, ℕ, ◌+◌, ◌-◌, ◌^◌, ◌<◌, ◌≤◌, true, false, List, [], ◌∷◌, ◌++◌}
use Rattle.std.specs.Prelude.{length, flat_map, Option, Some, None, min}
use Rattle.std.specs.List.{AllByRecursion}
use Rattle.tpkt_cotp.specs.declared.fault.CotpFault.{CotpFault}
use Rattle.tpkt_cotp.specs.declared.limits.TheConstants.{TSDU_LIMIT}
use Rattle.tpkt_cotp.specs.declared.tpdu.ConnectRequest.{ConnectRequest}
use Rattle.tpkt_cotp.specs.declared.tpdu.ConnectConfirm.{ConnectConfirm}
use Rattle.tpkt_cotp.specs.declared.turn.Role.{Role}
use Rattle.tpkt_cotp.specs.declared.turn.Turn.{Turn}
use Rattle.tpkt_cotp.specs.declared.turn.Turn.TheVariants as turns
use Rattle.tpkt_cotp.specs.Turns.{may_come}
use Rattle.tpkt_cotp.specs.Tpdus.{Tpdu, request, confirm, disconnect, part, kind, SpellsTpkt}
use Rattle.tpkt_cotp.specs.Faults.{TpktFault}

pub data Message : Type 0 where
  asks : ConnectRequest → Message
  confirms : ConnectConfirm → Message
  gone : Message
  -- the place of its first TPKT, and its octets
  tsdu : ℕ → List ℕ → Message

-- places count the octets of the stream, as far as 64 bits can
abbrev pub stream_place : ℕ → ℕ
stream_place place = min place (2 ^ 64 - 1)

-- a TPKT with a part of a TSDU that isn't its last
pub record Section : Type 0 where
  pub held : List ℕ
  pub octets : List ℕ

abbrev pub IsSection : Section → Type 0
IsSection s = SpellsTpkt (part false s.held) s.octets

abbrev pub held_of : List Section → List ℕ
held_of sections = flat_map (λ s. s.held) sections

abbrev pub section_octets_of : List Section → List ℕ
section_octets_of sections = flat_map (λ s. s.octets) sections

-- the octets begin with parts of one TSDU, if any, and go on
pub record Opens (turn : Turn) (sections : List Section) (octets rest : List ℕ) : Type 0 where
  pub each : AllByRecursion IsSection sections
  -- no part comes first
  pub order : 0 < length sections → turn ≡ turns.Transfer
  pub within : length (held_of sections) ≤ TSDU_LIMIT
  pub is : octets ≡ section_octets_of sections ++ rest

-- a TPDU may come after so many octets of a TSDU: a part may not pass the limit, nor end an empty
-- TSDU
abbrev pub MayComeAfter : ℕ → Tpdu → Type 0
MayComeAfter total (part last held) = (total + length held ≤ TSDU_LIMIT)
    × (last ≡ true → 0 < total + length held)
MayComeAfter total _ = Unit {0}

pub record Comes (turn : Turn) (total : ℕ) (tpdu : Tpdu) : Type 0 where
  pub order : may_come turn (kind tpdu) ≡ true
  pub fits : MayComeAfter total tpdu

-- the message that a TPDU ends, behind parts of a TSDU: DR drops them
abbrev pub message_of : ℕ → List ℕ → Tpdu → Option Message
message_of at held (request r) = Some (asks r)
message_of at held (confirm c) = Some (confirms c)
message_of at held disconnect = Some gone
message_of at held (part true more) = Some (tsdu (stream_place at) (held ++ more))
message_of at held (part false more) = None

-- what is held of a TSDU behind a TPDU
abbrev pub part_after : List ℕ → Tpdu → List ℕ
part_after held (part false more) = held ++ more
part_after held _ = []

-- these octets of the stream, from a place on, are this message
pub record SpellsMessage (turn : Turn) (at : ℕ) (message : Message) (octets : List ℕ) : Type 0 where
  pub sections : List Section
  pub last : List ℕ
  pub tpdu : Tpdu
  pub opens : Opens turn sections octets last
  pub spelled : SpellsTpkt tpdu last
  pub comes : Comes turn (length (held_of sections)) tpdu
  pub ends : message_of at (held_of sections) tpdu ≡ Some message

-- behind parts of a TSDU, if any, a TPKT breaks a rule
pub record BreaksRule (turn : Turn) (at : ℕ) (octets : List ℕ) (f : CotpFault) : Type 0 where
  pub sections : List Section
  pub rest : List ℕ
  pub opens : Opens turn sections octets rest
  pub broken : CotpFault
  pub breaks : TpktFault turn (length (held_of sections)) rest broken
  pub is : f ≡ record {
    place = stream_place (at + length (section_octets_of sections) + broken.place);
    why = broken.why;
  }

-- no whole TPKT that may come stands at the front, and none breaks a rule so far, where so many
-- octets of a TSDU came before
pub record IsPartial (turn : Turn) (total : ℕ) (octets : List ℕ) : Type 0 where
  pub no_tpkt : (tpdu : Tpdu) (first more : List ℕ) → octets ≡ first ++ more
      → SpellsTpkt tpdu first → Comes turn total tpdu → ⊥
  pub no_fault : (f : CotpFault) → TpktFault turn total octets f → ⊥

-- no whole message stands at the front, and no rule is broken so far
pub record IsRest (turn : Turn) (at : ℕ) (octets : List ℕ) : Type 0 where
  pub no_message : (message : Message) (first more : List ℕ) → octets ≡ first ++ more
      → SpellsMessage turn at message first → ⊥
  pub no_fault : (f : CotpFault) → BreaksRule turn at octets f → ⊥

-- what comes after these messages
abbrev pub turn_after : Turn → List Message → Turn
turn_after turn [] = turn
turn_after turn (_ ∷ _) = turns.Transfer

-- the octets from a place on are these messages, one after another
abbrev pub SpellsMessages : Turn → ℕ → List Message → List ℕ → Type 0
SpellsMessages turn at [] octets = octets ≡ []
SpellsMessages turn at (m ∷ ms) octets = (first : List ℕ) × (more : List ℕ)
    × (octets ≡ first ++ more) × SpellsMessage turn at m first
    × SpellsMessages turns.Transfer (at + length first) ms more

-- the stream so far is these messages, and then a rest that isn't whole and breaks no rule
pub record Says (role : Role) (octets : List ℕ) (messages : List Message) (rest : List ℕ) : Type 0
  where
    pub whole : List ℕ
    pub is : octets ≡ whole ++ rest
    pub spelled : SpellsMessages (turns.Opening role) 0 messages whole
    pub remains : IsRest (turn_after (turns.Opening role) messages) (length whole) rest

-- the stream so far is these messages, and then breaks a rule
pub record Stops (role : Role) (octets : List ℕ) (messages : List Message) (f : CotpFault) : Type 0
  where
    pub whole : List ℕ
    pub rest : List ℕ
    pub is : octets ≡ whole ++ rest
    pub spelled : SpellsMessages (turns.Opening role) 0 messages whole
    pub breaks : BreaksRule (turn_after (turns.Opening role) messages) (length whole) rest f
