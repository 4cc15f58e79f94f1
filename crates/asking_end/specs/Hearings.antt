-- What the calling end hears, as what it comes to for an agenda that is asked: replies and reports,
-- of which something may be shown, and all else.
use Rattle.std.specs.Prelude.{ℕ, if◌then◌else◌, List, [], Option, Some, None}
use Rattle.mms_services.specs.declared.pdu.MmsPdu.{MmsPdu}
use Rattle.mms_services.specs.Lawful.{IsLawfulPdu}
use Rattle.stack_assoc.specs.declared.messages.fault.Layer.{Layer}
use Rattle.stack_assoc.specs.declared.messages.fault.Layer.TheVariants as layers
use Rattle.stack_assoc.specs.Messages.Layers.{out_of_order}
use Rattle.stack_assoc.specs.declared.input.StackIn.{StackIn}
use Rattle.stack_assoc.specs.declared.input.StackIn.TheVariants as inputs
use Rattle.stack_assoc.specs.Arrivals.{is_concluded_pdu}
use Rattle.tase_views.specs.declared.reply.ReplyKind.{ReplyKind}
use Rattle.tase_views.specs.declared.reply.ReportKind.{ReportKind}
use Rattle.tase_conn.specs.Map.Replied.{reply_in, report_in, answered_number}
use Rattle.asking_end.specs.declared.end.AskEnd.TheVariants as ends
use Rattle.asking_end.specs.declared.asker.Awaiting.{Awaiting}
use Rattle.asking_end.specs.declared.asker.Awaiting.TheVariants as awaits
use Rattle.asking_end.specs.declared.asker.AskMove.{AskMove}
use Rattle.asking_end.specs.declared.asker.AskMove.TheVariants as moves
use Rattle.asking_end.specs.declared.asker.Asker.{Asker}
use Rattle.asking_end.specs.Agendas.{AgendaActs}
use Rattle.asking_end.specs.Asking.{AskTurn, begun, reply_heeded, report_heeded, concluded_for}
use Rattle.asking_end.specs.Asking.{released, is_awaited, number_awaited}

-- the parts of a PDU are lawful, as those of each PDU that is heard
abbrev pub IsLawfulInput : StackIn → Type 0
IsLawfulInput (inputs.Pdu pdu) = IsLawfulPdu pdu
IsLawfulInput input = Unit {0}

-- ---- what it comes to

-- what isn't one of the answers that may come is refused, as out of order in its layer
abbrev pub refusal_at : {E : Type 0} → Layer → AskMove E
refusal_at layer = moves.End (ends.Refused (out_of_order layer))

abbrev pub refused_at : {A E : Type 0} → Layer → Asker A → AskTurn A E
refused_at layer p = (p, refusal_at layer)

-- the association stands: the agenda begins
abbrev pub accept_heeded : {A E I : Type 0} → AgendaActs A E I → Awaiting → Asker A → AskTurn A E
accept_heeded acts awaits.Association p = begun acts p
accept_heeded acts awaiting p = refused_at layers.Session p

-- a PDU that is no reply and no report
abbrev pub service_heeded : {A E I : Type 0} → AgendaActs A E I → MmsPdu → Asker A → AskTurn A E
service_heeded acts pdu p = if is_concluded_pdu (Some pdu) then concluded_for acts p.awaiting p
    else refused_at layers.Mms p

-- a PDU that is no reply, and this report, if it is one
abbrev pub unreplied_heeded : {A E I : Type 0} → AgendaActs A E I → MmsPdu → Option ReportKind
    → Asker A → AskTurn A E
unreplied_heeded acts pdu (Some report) p = report_heeded acts report p
unreplied_heeded acts pdu None p = service_heeded acts pdu p

-- a PDU that is this reply, if it is one
abbrev pub replied_heeded : {A E I : Type 0} → AgendaActs A E I → MmsPdu → Option ReplyKind
    → Asker A → AskTurn A E
replied_heeded acts pdu (Some reply) p = reply_heeded acts (answered_number pdu) reply p
replied_heeded acts pdu None p = unreplied_heeded acts pdu (report_in pdu) p

-- what comes of what the stack hands out
abbrev pub input_heeded : {A E I : Type 0} → AgendaActs A E I → StackIn → Asker A → AskTurn A E
input_heeded acts (inputs.Offer title initiate) p = refused_at layers.Session p
input_heeded acts inputs.BadOffer p = refused_at layers.Session p
input_heeded acts (inputs.Accepted initiate) p = accept_heeded acts p.awaiting p
input_heeded acts (inputs.Pdu pdu) p = replied_heeded acts pdu (reply_in pdu) p
input_heeded acts (inputs.BadRequest invoke) p = refused_at layers.Mms p
input_heeded acts inputs.Released p = (p, moves.End (released p.awaiting))
input_heeded acts inputs.Aborted p = (p, moves.End ends.PeerEnd)
input_heeded acts inputs.Refused p = (p, moves.End ends.Rejected)

-- ---- what is shown of it

-- a report is shown, whatever is awaited
abbrev pub report_shown : {A E I : Type 0} → AgendaActs A E I → Option ReportKind → Asker A
    → List I
report_shown acts None p = []
report_shown acts (Some report) p = acts.report_shown report p.agenda

-- a reply is shown where it is the one that is awaited
abbrev pub reply_shown : {A E I : Type 0} → AgendaActs A E I → Option ℕ → ReplyKind → Asker A
    → List I
reply_shown acts number reply p = if is_awaited (number_awaited p) number
    then acts.reply_shown p.last reply p.agenda else []

abbrev pub pdu_shown : {A E I : Type 0} → AgendaActs A E I → MmsPdu → Option ReplyKind → Asker A
    → List I
pdu_shown acts pdu (Some reply) p = reply_shown acts (answered_number pdu) reply p
pdu_shown acts pdu None p = report_shown acts (report_in pdu) p

abbrev pub input_shown : {A E I : Type 0} → AgendaActs A E I → StackIn → Asker A → List I
input_shown acts (inputs.Pdu pdu) p = pdu_shown acts pdu (reply_in pdu) p
input_shown acts input p = []
