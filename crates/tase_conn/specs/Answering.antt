-- What a connection makes of the node's answers.
use Rattle.std.specs.Prelude.{◌≡◌, ℕ, ℤ, unsigned_abs, Bool, true, false}
use Rattle.std.specs.Prelude.{if◌then◌else◌, List, [], ◌++◌}
use Rattle.std.specs.Prelude.{Option, Some, None, Result, Ok, Err}
use Rattle.tpkt_cotp.specs.Written.{wire}
use Rattle.mms_services.specs.declared.initiate.Initiate.{Initiate}
use Rattle.mms_services.specs.declared.initiate.TheConstants.{MOST_DETAIL}
use Rattle.mms_services.specs.declared.pdu.MmsPdu.TheVariants as pdus
use Rattle.stack_assoc.specs.Wire.Tsdus.{accept_tsdu}
use Rattle.stack_assoc.specs.Courses.{Course, is_accepted}
use Rattle.bilateral.specs.Rows.{CentreRows, table_of}
use Rattle.tase_views.specs.declared.reply.Answer.{Answer}
use Rattle.tase_views.specs.declared.reply.Answer.TheVariants as answers
use Rattle.tase_views.specs.declared.fault.StepFault.{StepFault}
use Rattle.tase_views.specs.declared.fault.StepFault.TheVariants as faults
use Rattle.tase_conn.specs.Map.Replied.{pdu_of_reply}
use Rattle.tase_conn.specs.Map.Out.{said, within, reports_said, release_wire, abort_wire, first_too_long}
use Rattle.tase_conn.specs.declared.stage.ConnEnd.{ConnEnd}
use Rattle.tase_conn.specs.declared.stage.ConnEnd.TheVariants as conn_ends
use Rattle.tase_conn.specs.declared.stage.Stage.{Stage}
use Rattle.tase_conn.specs.declared.stage.Stage.TheVariants as stages
use Rattle.tase_conn.specs.declared.stage.Cause.{Cause}
use Rattle.tase_conn.specs.declared.stage.Cause.TheVariants as causes
use Rattle.tase_conn.specs.declared.stage.PendingEvent.{PendingEvent}
use Rattle.tase_conn.specs.declared.stage.PendingEvent.TheVariants as askeds
use Rattle.tase_conn.specs.declared.stage.Progress.{Progress}
use Rattle.tase_conn.specs.declared.stage.Progress.TheVariants as progresses
use Rattle.tase_conn.specs.Talking.{Talking, pending_of, is_open_stage, is_leaving}

-- ---- which answers may be told

-- the node was stopped, its history is full, or its memory ran out
abbrev pub IsCutFault : StepFault → Type 0
IsCutFault (faults.Stopped place) = Unit {0}
IsCutFault (faults.HistoryFull weight limit) = Unit {0}
IsCutFault faults.Memory = Unit {0}
IsCutFault _ = ⊥

-- the node answers an open, a request, a take and a close; each but a close it may refuse
abbrev pub IsAnswerTo : PendingEvent → Result Answer StepFault → Type 0
IsAnswerTo (askeds.Opening peer granted) (Ok (answers.Opened key)) = Unit {0}
IsAnswerTo (askeds.Opening peer granted) (Err fault) = IsCutFault fault
IsAnswerTo (askeds.Requesting invoke) (Ok (answers.Reply reply)) = Unit {0}
IsAnswerTo (askeds.Requesting invoke) (Err fault) = IsCutFault fault
IsAnswerTo askeds.Taking (Ok (answers.Reports reports)) = Unit {0}
IsAnswerTo askeds.Taking (Err fault) = IsCutFault fault
IsAnswerTo (askeds.Closing cause) (Ok answers.Closed) = Unit {0}
IsAnswerTo _ _ = ⊥

abbrev pub IsAnswerFor : Progress → Result Answer StepFault → Type 0
IsAnswerFor (progresses.Running asked) told = IsAnswerTo asked told
IsAnswerFor (progresses.Leaving end true) (Ok answers.Closed) = Unit {0}
IsAnswerFor _ _ = ⊥

-- ---- the association

abbrev pub detail_in : Initiate → ℤ
detail_in granted = detail_or granted.detail
  where
    detail_or : Option ℤ → ℤ
    detail_or None = MOST_DETAIL
    detail_or (Some detail) = detail

abbrev pub detail_at : Stage → ℤ
detail_at (stages.Open peer detail) = detail
detail_at _ = MOST_DETAIL

abbrev pub stage_closed : Stage → Stage
stage_closed (stages.Open peer detail) = stages.Closed peer
stage_closed stage = stage

-- an open has opened it, and a close has closed it
abbrev pub stage_by : PendingEvent → Stage → Stage
stage_by (askeds.Opening peer granted) stage = stages.Open peer (detail_in granted)
stage_by (askeds.Closing cause) stage = stage_closed stage
stage_by _ stage = stage

abbrev pub stage_told : Progress → Result Answer StepFault → Stage → Stage
stage_told (progresses.Running asked) (Ok answer) stage = stage_by asked stage
stage_told (progresses.Leaving end asked) (Ok answer) stage = stage_closed stage
stage_told _ _ stage = stage

-- ---- how it goes on

abbrev pub end_of_fault : StepFault → ConnEnd
end_of_fault (faults.Stopped place) = conn_ends.Stopped
end_of_fault (faults.HistoryFull weight limit) = conn_ends.Full weight limit
end_of_fault _ = conn_ends.Memory

-- behind the answer to a close: conclude may be followed by the release, each other cause ends it
abbrev pub progress_closed : Cause → Progress
progress_closed causes.Concluded = progresses.Running askeds.Nothing
progress_closed causes.Released = progresses.Ended conn_ends.Finished
progress_closed causes.Aborted = progresses.Ended conn_ends.PeerEnd
progress_closed causes.LinkEnd = progresses.Ended conn_ends.PeerEnd
progress_closed (causes.Broken fault) = progresses.Ended (conn_ends.Refused fault)

-- where it is left, an open association is closed first
abbrev pub progress_left : Stage → ConnEnd → Progress
progress_left stage end =
    if is_open_stage stage then progresses.Leaving end false else progresses.Cut end

-- behind reports it goes on; it is left for one that is too long
abbrev pub progress_reported : Stage → Option ℕ → Progress
progress_reported stage None = progresses.Running askeds.Nothing
progress_reported stage (Some len) =
    progress_left stage (conn_ends.TooLong len (unsigned_abs (detail_at stage)))

abbrev pub progress_by : Stage → PendingEvent → Answer → Progress
progress_by stage askeds.Taking (answers.Reports reports) =
    progress_reported stage (first_too_long (detail_at stage) reports)
progress_by stage (askeds.Closing cause) answer = progress_closed cause
progress_by stage _ answer = progresses.Running askeds.Nothing

abbrev pub progress_told : Progress → Stage → Result Answer StepFault → Progress
progress_told (progresses.Running asked) stage (Ok answer) = progress_by stage asked answer
progress_told (progresses.Running asked) stage (Err fault) =
    progress_left stage (end_of_fault fault)
progress_told (progresses.Leaving end asked) stage told = progresses.Cut end
progress_told progress stage told = progress

-- ---- what is said

-- not where the link has failed, or doesn't take what is sent
abbrev pub aborts : ConnEnd → Bool
aborts conn_ends.LinkFault = false
aborts (conn_ends.Overflow pending limit) = false
aborts _ = true

-- an association that stands is aborted
abbrev pub aborted : Course → List ℕ
aborted course = if is_accepted course.standing then abort_wire course.setup else []

abbrev pub parting_octets : Course → ConnEnd → List ℕ
parting_octets course end = if aborts end then aborted course else []

-- conclude and release are answered; an abort and the link's end aren't
abbrev pub closed_said : Course → Cause → List ℕ
closed_said course causes.Concluded = said course.setup pdus.Concluded
closed_said course causes.Released = release_wire course.setup
closed_said course causes.Aborted = []
closed_said course causes.LinkEnd = []
closed_said course (causes.Broken fault) = aborted course

abbrev pub answer_said : Course → Stage → PendingEvent → Answer → List ℕ
answer_said course stage (askeds.Opening peer granted) (answers.Opened key) =
    wire course.setup.size (accept_tsdu course.setup granted)
answer_said course stage (askeds.Requesting invoke) (answers.Reply reply) =
    said course.setup (within (detail_at stage) invoke (pdu_of_reply invoke reply))
answer_said course stage askeds.Taking (answers.Reports reports) =
    reports_said course.setup (detail_at stage) reports
answer_said course stage (askeds.Closing cause) answers.Closed = closed_said course cause
answer_said course stage _ _ = []

-- an answer, or a refusal, which aborts an association at once only where none is open
abbrev pub told_said : Progress → Stage → Course → Result Answer StepFault → List ℕ
told_said (progresses.Running asked) stage course (Ok answer) =
    answer_said course stage asked answer
told_said (progresses.Running asked) stage course (Err fault) =
    if is_open_stage stage then [] else parting_octets course (end_of_fault fault)
told_said (progresses.Leaving end asked) stage course told = parting_octets course end
told_said progress stage course told = []

-- ---- what may wait

-- the octets that may wait: the table's, and 1,048,576 before the association is open
abbrev pub limit_at : CentreRows → Stage → ℕ
limit_at rows stages.Early = 1048576
limit_at rows (stages.Open peer detail) = (table_of rows peer).pending
limit_at rows (stages.Closed peer) = (table_of rows peer).pending

-- ---- what becomes of a connection

-- it was told an answer, or a refusal
pub record TellsAnswer (told : Result Answer StepFault) (old new : Talking) : Type 0 where
  pub said : pending_of new ≡ pending_of old ++ told_said old.progress old.stage old.course told
  pub progress : new.progress ≡ progress_told old.progress old.stage told
  pub stage : new.stage ≡ stage_told old.progress told old.stage
  -- where it is left, its association stands as it stood
  pub course : is_leaving new.progress ≡ true → new.course ≡ old.course

-- memory was wanting for what is said: it is to be given up
abbrev pub unnoted : Result Answer StepFault → Talking → Talking
unnoted told v = record v {
  progress = progresses.Refused;
  stage = stage_told v.progress told v.stage;
}
