-- What a connection is once an answer of the node was noted.
use Rattle.std.specs.Prelude.{◌≡◌, ◌++◌, ℕ, ℤ, pos, int_lt, if◌then◌else◌, List, [], Option}
use Rattle.std.specs.Prelude.{Some, None}
use Rattle.tpkt_cotp.specs.Written.{wire}
use Rattle.mms_services.specs.declared.initiate.Initiate.{Initiate}
use Rattle.mms_services.specs.declared.pdu.MmsPdu.{MmsPdu}
use Rattle.mms_services.specs.PduOctets.{pdu_len}
use Rattle.stack_assoc.specs.declared.wire.setup.AssociationSetup.{AssociationSetup}
use Rattle.stack_assoc.specs.Wire.Tsdus.{accept_tsdu}
use Rattle.stack_assoc.specs.declared.end_state.EndState.TheVariants as standings
use Rattle.stack_assoc.specs.Saying.{with_standing, with_said}
use Rattle.tase_views.specs.declared.reply.Answer.{Answer}
use Rattle.tase_views.specs.declared.reply.Answer.TheVariants as answers
use Rattle.tase_views.specs.declared.reply.ReportKind.{ReportKind}
use Rattle.tase_conn.specs.Map.Replied.{pdu_of_reply}
use Rattle.tase_conn.specs.Map.Out.{said, within, reports_said, first_too_long}
use Rattle.tase_conn.specs.declared.stage.Stage.TheVariants as stages
use Rattle.tase_conn.specs.declared.stage.PendingEvent.{PendingEvent}
use Rattle.tase_conn.specs.declared.stage.PendingEvent.TheVariants as askeds
use Rattle.tase_conn.specs.declared.stage.Progress.{Progress}
use Rattle.tase_conn.specs.declared.stage.Progress.TheVariants as progresses
use Rattle.tase_conn.specs.Talking.{Talking}
use Rattle.tase_conn.specs.Answering.{detail_in, detail_at, stage_closed, parting_octets}
use Rattle.tase_conn.specs.Answering.{progress_reported}
use Rattle.tase_conn.specs.Leaving.{Parts, EndsFor}

-- nothing waits any more
abbrev pub with_nothing_waiting : Talking → Talking
with_nothing_waiting v = record v { progress = progresses.Running askeds.Nothing }

-- the association is open, and its offer was accepted with what is granted
abbrev pub with_open : ℕ → Initiate → Talking → Talking
with_open peer granted v = record v {
  course = with_standing standings.Accepted v.course;
  stage = stages.Open peer (detail_in granted);
  progress = progresses.Running askeds.Nothing;
  out = v.out ++ wire v.course.setup.size (accept_tsdu v.course.setup granted);
}

-- this PDU was said
abbrev pub answered : MmsPdu → Talking → Talking
answered pdu v = record v {
  course = with_said pdu v.course;
  progress = progresses.Running askeds.Nothing;
  out = v.out ++ said v.course.setup pdu;
}

-- how many octets a PDU has, where it has more than were agreed on; it isn't said then
abbrev pub len_above : ℤ → MmsPdu → Option ℕ
len_above detail pdu =
    if int_lt detail (pos (pdu_len pdu)) then Some (pdu_len pdu) else None

abbrev pub said_up_to : ℤ → AssociationSetup → MmsPdu → List ℕ
said_up_to detail setup pdu =
    if int_lt detail (pos (pdu_len pdu)) then [] else said setup pdu

-- these reports were said, up to one that is too long
abbrev pub with_reports_said : List ReportKind → Talking → Talking
with_reports_said reports v = record v {
  progress = progress_reported v.stage (first_too_long (detail_at v.stage) reports);
  out = v.out ++ reports_said v.course.setup (detail_at v.stage) reports;
}

-- the answer to the event that waited
abbrev pub NotesAsked : PendingEvent → Answer → Talking → Talking → Type 0
NotesAsked (askeds.Opening peer granted) answer old new = new ≡ with_open peer granted old
NotesAsked (askeds.Requesting invoke) (answers.Reply reply) old new =
    new ≡ answered (within (detail_at old.stage) invoke (pdu_of_reply invoke reply)) old
NotesAsked askeds.Taking (answers.Reports reports) old new = new ≡ with_reports_said reports old
NotesAsked (askeds.Closing cause) answer old new =
    EndsFor cause (record old { stage = stage_closed old.stage }) new
NotesAsked asked answer old new = new ≡ with_nothing_waiting old

-- or to the close of the association that was left
abbrev pub NotesAnswer : Progress → Answer → Talking → Talking → Type 0
NotesAnswer (progresses.Running asked) answer old new = NotesAsked asked answer old new
NotesAnswer (progresses.Leaving end asked) answer old new = Parts (progresses.Cut end)
    (parting_octets old.course end) (record old { stage = stage_closed old.stage }) new
NotesAnswer progress answer old new = new ≡ old
