-- The octets that a peer is sent.
use Rattle.std.specs.Prelude.{ℕ, ℤ, pos, ◌-◌, ◌==◌, nat_lt, int_lt, Bool, true, false, not}
use Rattle.std.specs.Prelude.{if◌then◌else◌, List, [], ◌∷◌, ◌++◌, length, filter, Option, Some}
use Rattle.std.specs.Prelude.{None}
use Rattle.tpkt_cotp.specs.Written.{wire}
use Rattle.mms_services.specs.declared.initiate.TheConstants.{MOST_DETAIL}
use Rattle.mms_services.specs.declared.pdu.MmsPdu.{MmsPdu}
use Rattle.mms_services.specs.declared.pdu.MmsPdu.TheVariants as pdus
use Rattle.mms_services.specs.Negotiations.{granted, granted_of}
use Rattle.mms_services.specs.PduOctets.{pdu_len}
use Rattle.stack_assoc.specs.declared.messages.heard.Connecting.{Connecting}
use Rattle.stack_assoc.specs.declared.wire.setup.AssociationSetup.{AssociationSetup}
use Rattle.stack_assoc.specs.Wire.Tsdus.{accept_tsdu, refusal_tsdu, release_tsdu, abort_tsdu, data_tsdu}
use Rattle.stack_assoc.specs.Arrivals.{called, first_in, connect_in}
use Rattle.stack_assoc.specs.Expectations.{setup_after}
use Rattle.stack_assoc.specs.Handing.{answers_to}
use Rattle.bilateral.specs.Rows.{CentreRows}
use Rattle.tase_views.specs.declared.reply.ReplyKind.{ReplyKind}
use Rattle.tase_views.specs.declared.reply.ReportKind.{ReportKind}
use Rattle.tase_views.specs.OwnTables.{OwnTables}
use Rattle.tase_views.specs.Moves.{Act, acts_of_call}
use Rattle.tase_views.specs.View.{View, Seen, own}
use Rattle.tase_views.specs.Moves as acts
use Rattle.tase_views.specs.Answers.{reply_to}
use Rattle.tase_views.specs.Reports.{reports_pending}
use Rattle.tase_conn.specs.Map.Replied.{pdu_of_reply, pdu_of_report}
use Rattle.tase_conn.specs.Map.Readings.{Reading, reading_of}
use Rattle.tase_conn.specs.Map.Turns.{Turn, offers, offers_badly, asks, concludes, releases, aborts}
use Rattle.tase_conn.specs.Map.Turns.{breaks, ends}
use Rattle.tase_conn.specs.Map.Turns.{turns_told}
use Rattle.tase_conn.specs.Map.Asks.{is_peers}

-- ---- what the text of an association fixes

-- the octets of its beginning, what its connect fixed, the longest PDU that was agreed on, and what
-- comes behind its offer
pub record Talk : Type 0 where
  pub opening : List ℕ
  pub setup : AssociationSetup
  pub detail : ℤ
  pub turns : List Turn

-- the association is accepted with what is granted of the offer
abbrev pub accept_wire : AssociationSetup → Option Connecting → List ℕ
accept_wire setup None = []
accept_wire setup (Some c) = wire setup.size (accept_tsdu setup (granted c.initiate))

abbrev pub detail_of : Option Connecting → ℤ
detail_of None = MOST_DETAIL
detail_of (Some c) = granted_of MOST_DETAIL c.initiate.detail

abbrev pub behind_offer : List Turn → List Turn
behind_offer (offers title ∷ turns) = turns
behind_offer turns = []

abbrev pub end_turns : Bool → List Turn
end_turns true = ends ∷ []
end_turns false = []

-- the confirm of the transport and the accept, and all that comes behind the offer, with the end of
-- the link, where it has ended
abbrev pub talk_of : Reading → Bool → Talk
talk_of reading ended = record {
  opening = answers_to called reading.told
      ++ accept_wire (setup_after reading.told) (first_in connect_in reading.told);
  setup = setup_after reading.told;
  detail = detail_of (first_in connect_in reading.told);
  turns = behind_offer (turns_told reading ++ end_turns ended);
}

-- ---- one entry

abbrev pub said : AssociationSetup → MmsPdu → List ℕ
said setup pdu = wire setup.size (data_tsdu setup.mms pdu)

-- the class of errors of resources, and that none more is told of them
abbrev pub too_long : ℕ → MmsPdu
too_long invoke = pdus.Error (record { invoke = invoke; class = 3; code = 0 })

-- a PDU that is longer than was agreed on is replaced by an error
abbrev pub within : ℤ → ℕ → MmsPdu → MmsPdu
within detail invoke pdu = if int_lt detail (pos (pdu_len pdu)) then too_long invoke else pdu

-- the reply to a request
abbrev pub reply_octets : Talk → ℕ → ReplyKind → List ℕ
reply_octets talk invoke reply = said talk.setup
    (within talk.detail invoke (pdu_of_reply invoke reply))

-- reports, up to the first that is longer than was agreed on: neither that nor what follows it is
-- said
abbrev pub reports_said : AssociationSetup → ℤ → List ReportKind → List ℕ
reports_said setup detail [] = []
reports_said setup detail (report ∷ reports) =
    if int_lt detail (pos (pdu_len (pdu_of_report report))) then []
    else said setup (pdu_of_report report) ++ reports_said setup detail reports

-- how many octets the first report has that is longer than was agreed on, if there is one
abbrev pub first_too_long : ℤ → List ReportKind → Option ℕ
first_too_long detail [] = None
first_too_long detail (report ∷ reports) =
    if int_lt detail (pos (pdu_len (pdu_of_report report)))
    then Some (pdu_len (pdu_of_report report)) else first_too_long detail reports

abbrev pub release_wire : AssociationSetup → List ℕ
release_wire setup = wire setup.size (release_tsdu setup.acse)

abbrev pub abort_wire : AssociationSetup → List ℕ
abort_wire setup = wire setup.size (abort_tsdu setup.acse)

-- what is sent behind the response to conclude
abbrev pub concluded_octets : AssociationSetup → List Turn → List ℕ
concluded_octets setup (releases ∷ turns) = release_wire setup
concluded_octets setup (breaks ∷ turns) = abort_wire setup
concluded_octets setup _ = []

-- a close, by what stands at its place: conclude is answered, and then what follows it; a release is
-- answered; an abort and the end of the link aren't; a fault, and a close for which there is no
-- cause, abort the association
abbrev pub close_octets : AssociationSetup → List Turn → List ℕ
close_octets setup (concludes ∷ turns) = said setup pdus.Concluded ++ concluded_octets setup turns
close_octets setup (releases ∷ turns) = release_wire setup
close_octets setup (aborts ∷ turns) = []
close_octets setup (ends ∷ turns) = []
close_octets setup _ = abort_wire setup

-- ---- which of them an act begins

-- whether an act is one that a request makes
abbrev pub is_asked : Act → Bool
is_asked acts.opens = false
is_asked acts.takes = false
is_asked acts.closes = false
is_asked (acts.reads name) = true
is_asked (acts.writes name value) = true
is_asked (acts.defines set members) = true
is_asked (acts.deletes set) = true
is_asked (acts.calls call) = true

abbrev pub is_asked_by : ℕ → Seen → Bool
is_asked_by ordinal (own other act) = if other == ordinal then is_asked act else false
is_asked_by ordinal _ = false

-- how many acts the requests of an association have made
abbrev pub acts_made : ℕ → View → ℕ
acts_made ordinal view = length (filter (is_asked_by ordinal) view)

-- what comes behind requests that make so many acts; nothing, where these end inside a request
abbrev pub turns_behind : List Turn → ℕ → List Turn
turns_behind [] count = []
turns_behind (asks invoke call ∷ turns) count =
    if count == 0 then asks invoke call ∷ turns
    else (if nat_lt count (length (acts_of_call call)) then []
    else turns_behind turns (count - length (acts_of_call call)))
turns_behind (turn ∷ turns) count = if count == 0 then turn ∷ turns else []

-- the reply to the request that comes first, over the view before it
abbrev pub first_reply : OwnTables → ℕ → Talk → View → List Turn → List ℕ
first_reply table ordinal talk view (asks invoke call ∷ turns) =
    reply_octets talk invoke (reply_to table view ordinal call)
first_reply table ordinal talk view _ = []

-- what an act of the association adds behind the view before it: the first act of a request its
-- reply, a take the reports that were made
abbrev pub act_octets : OwnTables → ℕ → Talk → View → Act → List ℕ
act_octets table ordinal talk view acts.opens = talk.opening
act_octets table ordinal talk view acts.takes =
    reports_said talk.setup talk.detail (reports_pending table view ordinal)
act_octets table ordinal talk view acts.closes =
    close_octets talk.setup (turns_behind talk.turns (acts_made ordinal view))
act_octets table ordinal talk view _ =
    first_reply table ordinal talk view (turns_behind talk.turns (acts_made ordinal view))

abbrev pub octets_seen : OwnTables → ℕ → Talk → View → Seen → List ℕ
octets_seen table ordinal talk view (own other act) =
    if other == ordinal then act_octets table ordinal talk view act else []
octets_seen table ordinal talk view _ = []

abbrev pub octets_in : OwnTables → ℕ → Talk → View → List ℕ
octets_in table ordinal talk [] = []
octets_in table ordinal talk (seen ∷ view) =
    octets_in table ordinal talk view ++ octets_seen table ordinal talk view seen

-- ---- all of them

-- the octets that the peer's association with this ordinal is sent, where its link has given this
-- text, and whether it has ended: from the peer's own tables and its view, and from nothing else
abbrev pub octets_out : OwnTables → View → ℕ → List ℕ → Bool → List ℕ
octets_out table view ordinal text ended =
    octets_in table ordinal (talk_of (reading_of text) ended) view

-- whether what comes first is an offer that is no peer's, or that can only be refused; behind an
-- abort no offer is answered
abbrev pub is_declined : CentreRows → List Turn → Bool
is_declined rows (offers title ∷ turns) = not (is_peers rows title)
is_declined rows (offers_badly ∷ turns) = true
is_declined rows _ = false

abbrev pub refusal_octets : CentreRows → Reading → List ℕ
refusal_octets rows reading = if is_declined rows (turns_told reading)
    then wire (setup_after reading.told).size (refusal_tsdu (setup_after reading.told).acse) else []

-- the octets of a connection without an association: none, the confirm of the transport, or that and
-- a refusal
abbrev pub early_octets : CentreRows → List ℕ → List ℕ
early_octets rows text =
    answers_to called (reading_of text).told ++ refusal_octets rows (reading_of text)
