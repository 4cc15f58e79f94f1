-- What an association is sent, by its events with their answers and by what its link gave.
use Rattle.std.specs.Prelude.{ℕ, ◌≤◌, ℤ, pos, ◌≤ℤ◌, int_lt, Bool, if◌then◌else◌, List, []}
use Rattle.std.specs.Prelude.{◌∷◌, ◌++◌, map, drop}
use Rattle.mms_services.specs.declared.initiate.TheConstants.{MOST_DETAIL}
use Rattle.mms_services.specs.declared.pdu.MmsPdu.{MmsPdu}
use Rattle.mms_services.specs.PduOctets.{pdu_len}
use Rattle.stack_assoc.specs.declared.wire.setup.AssociationSetup.{AssociationSetup}
use Rattle.stack_assoc.specs.Wire.Setups.{IsSetup}
use Rattle.tase_views.specs.declared.event.EventKind.{EventKind}
use Rattle.tase_views.specs.declared.event.EventKind.TheVariants as events
use Rattle.tase_views.specs.declared.reply.Answer.{Answer}
use Rattle.tase_views.specs.declared.reply.Answer.TheVariants as answers
use Rattle.tase_conn.specs.Map.Asked.{invalid}
use Rattle.tase_conn.specs.Map.Turns.{Turn, offers, offers_badly, asks, concludes, releases, aborts}
use Rattle.tase_conn.specs.Map.Turns.{breaks, ends, pauses}
use Rattle.tase_conn.specs.Map.Out.{Talk, said, reply_octets, reports_said, close_octets}
use Rattle.tase_verify.specs.declared.association.answered.AnsweredEvent.{AnsweredEvent}
use Rattle.tase_verify.specs.declared.association.turns.TurnKind.{TurnKind}
use Rattle.tase_verify.specs.declared.association.turns.TurnKind.TheVariants as kinds
use Rattle.tase_verify.specs.declared.association.saying.Terms.{Terms}

-- ---- by one event

-- the reply to the request with this number
abbrev pub replied_by : Talk → ℕ → Answer → List ℕ
replied_by talk invoke (answers.Reply reply) = reply_octets talk invoke reply
replied_by talk invoke answer = []

-- the reply to the request that comes first
abbrev pub replied : Talk → List Turn → Answer → List ℕ
replied talk (asks invoke call ∷ turns) answer = replied_by talk invoke answer
replied talk turns answer = []

-- whether a PDU is longer than was agreed on
abbrev pub is_too_long : ℤ → MmsPdu → Bool
is_too_long detail pdu = int_lt detail (pos (pdu_len pdu))

-- a PDU that isn't
abbrev pub said_within : AssociationSetup → ℤ → MmsPdu → List ℕ
said_within setup detail pdu = if is_too_long detail pdu then [] else said setup pdu

abbrev pub reported : Talk → Answer → List ℕ
reported talk (answers.Reports reports) = reports_said talk.setup talk.detail reports
reported talk answer = []

-- an open adds the beginning, a request its reply, a take the reports, a close what answers the
-- turn at its place
abbrev pub added_by : Talk → List Turn → Answer → EventKind → List ℕ
added_by talk turns answer (events.Open peer) = talk.opening
added_by talk turns answer (events.Request call) = replied talk turns answer
added_by talk turns answer events.Take = reported talk answer
added_by talk turns answer events.Close = close_octets talk.setup turns
added_by talk turns answer event = []

abbrev pub added : Talk → List Turn → AnsweredEvent → List ℕ
added talk turns told = added_by talk turns told.answer told.event

-- a request is the first of the turns; no other event takes any
abbrev pub turns_behind_event : EventKind → List Turn → List Turn
turns_behind_event (events.Request call) turns = drop 1 turns
turns_behind_event event turns = turns

-- ---- by all

-- what is sent of these events, where these turns come
abbrev pub octets_by_events : Talk → List Turn → List AnsweredEvent → List ℕ
octets_by_events talk turns [] = []
octets_by_events talk turns (told ∷ others) = added talk turns told
    ++ octets_by_events talk (turns_behind_event told.event turns) others

-- ---- as the code keeps it

-- what a turn is, and of a request its number alone, which is all that its reply tells of it
abbrev pub kind_of_turn : Turn → TurnKind
kind_of_turn (offers title) = kinds.Offers
kind_of_turn offers_badly = kinds.Offers
kind_of_turn (asks invoke call) = kinds.Asks invoke
kind_of_turn concludes = kinds.Concludes
kind_of_turn releases = kinds.Releases
kind_of_turn aborts = kinds.Aborts
kind_of_turn breaks = kinds.Breaks
kind_of_turn ends = kinds.Ends
kind_of_turn pauses = kinds.Offers

-- a turn of that kind
abbrev pub turn_of_kind : TurnKind → Turn
turn_of_kind kinds.Offers = offers_badly
turn_of_kind (kinds.Asks invoke) = asks invoke invalid
turn_of_kind kinds.Concludes = concludes
turn_of_kind kinds.Releases = releases
turn_of_kind kinds.Aborts = aborts
turn_of_kind kinds.Breaks = breaks
turn_of_kind kinds.Ends = ends

abbrev pub turns_of_kinds : List TurnKind → List Turn
turns_of_kinds turns = map turn_of_kind turns

-- what the text of an association fixes, by what is kept of it: the first turn is the offer
abbrev pub talk_kept : Terms → Talk
talk_kept terms = record {
  opening = terms.opening.items;
  setup = terms.stack.setup;
  detail = terms.detail;
  turns = turns_of_kinds (drop 1 terms.turns.items);
}

-- parameters by which everything may be written
pub record AreTerms (terms : Terms) : Type 0 where
  pub setup : IsSetup terms.stack.setup
  pub named : terms.stack.setup.acse ≤ 65535
  pub detail : terms.detail ≤ℤ MOST_DETAIL
