-- How a script is played: which call is asked next and when, what a reply and a report come to, and
-- when the script is done.
use Rattle.std.specs.Prelude.{ℕ, ℤ, pos, negsuc, ◌-◌}
use Rattle.std.specs.Prelude.{◌^◌, nat_lt, nat_le, Bool, true, false}
use Rattle.std.specs.Prelude.{if◌then◌else◌, List, [], ◌∷◌, ◌++◌, Option}
use Rattle.std.specs.Prelude.{Some, None, codes, ◌<◌, length}
use Rattle.std.specs.List.{All}
use Rattle.std.proofs.Common.{drop}
use Rattle.centre_client.specs.StepLines.{IsStep}
use Rattle.std.specs.Ordering.{int_eq}
use Rattle.mms_data.specs.Datum.{Datum, integer, unsigned}
use Rattle.mms_data.specs.ObjectName.{ObjectName}
use Rattle.mms_data.specs.declared.object_name.Scope.TheVariants as scopes
use Rattle.mms_data.specs.declared.outcome.Outcome.{Outcome}
use Rattle.mms_data.specs.declared.outcome.Outcome.TheVariants as outcomes
use Rattle.bilateral.specs.Rows.{CentreRows, table_of, device_of}
use Rattle.tase_views.specs.declared.call.CallKind.{CallKind}
use Rattle.tase_views.specs.declared.call.CallKind.TheVariants as calls
use Rattle.tase_views.specs.declared.reply.ReplyKind.{ReplyKind}
use Rattle.tase_views.specs.declared.reply.ReplyKind.TheVariants as replies
use Rattle.asking_end.specs.declared.asker.Awaiting.{Awaiting}
use Rattle.asking_end.specs.declared.asker.Awaiting.TheVariants as awaits
use Rattle.asking_end.specs.declared.next.Next.{Next}
use Rattle.asking_end.specs.declared.next.Next.TheVariants as nexts
use Rattle.asking_end.specs.Agendas.{AgendaTurn}
use Rattle.centre_client.specs.declared.script.Script.{Script}
use Rattle.centre_client.specs.declared.script.Step.{Step}
use Rattle.centre_client.specs.declared.script.StepKind.{StepKind}
use Rattle.centre_client.specs.declared.script.StepKind.TheVariants as kinds
use Rattle.centre_client.specs.declared.play.Checkback.{Checkback}
use Rattle.centre_client.specs.declared.play.Doing.{Doing}
use Rattle.centre_client.specs.declared.play.Doing.TheVariants as doings

-- a script that is played: the number of its peer, the steps that aren't done yet, and what the
-- first of them waits for
pub record Playing : Type 0 where
  pub peer : ℕ
  pub rest : List Step
  pub doing : Doing

-- ---- what is asked

-- the variable of a device in the domain of the script's table
abbrev pub device_variable : CentreRows → ℕ → List ℕ → ObjectName
device_variable rows peer item =
    record { scope = scopes.Domain (table_of rows peer).domain; item = item }

abbrev pub variable_list : CentreRows → ℕ → List ℕ → List ObjectName
variable_list rows peer item = device_variable rows peer item ∷ []

abbrev pub value_list : ℤ → List Datum
value_list value = integer value ∷ []

-- a read of the device's selection
abbrev pub select_call : CentreRows → ℕ → ℕ → CallKind
select_call rows peer device =
    calls.Read (variable_list rows peer ((device_of rows device).name ++ codes "_SBO")) false

-- a write of the device's value
abbrev pub operate_call : CentreRows → ℕ → ℕ → ℤ → CallKind
operate_call rows peer device value =
    calls.Write (variable_list rows peer (device_of rows device).name) (value_list value)

-- the call of a step whose reply is awaited; of an operate first the select, then the write
abbrev pub call_of_step : CentreRows → ℕ → Doing → StepKind → Option CallKind
call_of_step rows peer doings.Reply (kinds.Call call) = Some call
call_of_step rows peer doings.Reply (kinds.Operate device value) =
    Some (operate_call rows peer device value)
call_of_step rows peer doings.Select (kinds.Operate device value) =
    Some (select_call rows peer device)
call_of_step rows peer doing kind = None

abbrev pub call_of_first : CentreRows → ℕ → Doing → List Step → Option CallKind
call_of_first rows peer doing [] = None
call_of_first rows peer doing (step ∷ more) = call_of_step rows peer doing step.kind

-- the call that is asked
abbrev pub call_awaited : CentreRows → Playing → Option CallKind
call_awaited rows p = call_of_first rows p.peer p.doing p.rest

-- ---- what a step begins with

-- what is to come of what is waited for: a call is asked, or reports are awaited
abbrev pub next_for : Doing → Next Checkback
next_for (doings.Reports reports) = nexts.Wait
next_for doing = nexts.Ask

-- what a message comes to: how the script stands behind it, and what is to come next
abbrev pub PlayTurn : Type 0
PlayTurn = AgendaTurn Playing Checkback

-- this is waited for from now on
abbrev pub turned_to : Doing → Playing → PlayTurn
turned_to doing p = (record p { doing = doing }, next_for doing)

-- an operate of a direct device is asked at once, of another one its select
abbrev pub doing_of_operate : Bool → Doing
doing_of_operate true = doings.Reply
doing_of_operate false = doings.Select

-- what a step waits for at its begin
abbrev pub doing_first : CentreRows → StepKind → Doing
doing_first rows (kinds.Call call) = doings.Reply
doing_first rows (kinds.Operate device value) =
    doing_of_operate (device_of rows device).direct
doing_first rows (kinds.Wait reports) = doings.Reports reports

-- what the first of these steps waits for at its begin
abbrev pub doing_by : CentreRows → List Step → Option Doing
doing_by rows [] = None
doing_by rows (step ∷ more) = Some (doing_first rows step.kind)

-- behind the last step the association is concluded
abbrev pub begun_by : Option Doing → Playing → PlayTurn
begun_by None p = (p, nexts.Conclude)
begun_by (Some doing) p = turned_to doing p

-- the first step that isn't done is begun
abbrev pub begun : CentreRows → Playing → PlayTurn
begun rows p = begun_by (doing_by rows p.rest) p

-- the first step is done
abbrev pub left_behind : Playing → Playing
left_behind p = record p { rest = drop 1 p.rest }

-- the step is done, and the next one is begun
abbrev pub step_done : CentreRows → Playing → PlayTurn
step_done rows p = begun rows (left_behind p)

-- ---- what a select is answered

-- the number that a value counts as: one that is no integer of 64 bits as -1, or as -2 where -1 is
-- wanted
abbrev pub other_number : ℤ → ℤ
other_number want = if int_eq want (negsuc 0) then negsuc 1 else negsuc 0

abbrev pub number_of_unsigned : ℤ → ℕ → ℤ
number_of_unsigned want n = if nat_lt n (2 ^ 63) then pos n else other_number want

abbrev pub number_of_value : ℤ → Datum → ℤ
number_of_value want (integer z) = z
number_of_value want (unsigned n) = number_of_unsigned want n
number_of_value want value = other_number want

-- the number that a select is answered; none where it failed, or where the reply hasn't exactly one
-- outcome
abbrev pub number_of_outcome : ℤ → Outcome → Option ℤ
number_of_outcome want (outcomes.Good value) = Some (number_of_value want value)
number_of_outcome want (outcomes.Fail reason) = None

abbrev pub number_of_outcomes : ℤ → List Outcome → Option ℤ
number_of_outcomes want (outcome ∷ []) = number_of_outcome want outcome
number_of_outcomes want outcomes = None

abbrev pub number_answered : ℤ → ReplyKind → Option ℤ
number_answered want (replies.Results spec results) = number_of_outcomes want results
number_answered want reply = None

-- ---- what is heard

-- a script before the association stands
abbrev pub at_call : Script → Playing
at_call script = record { peer = script.peer; rest = script.steps; doing = doings.Reply }

-- the checkback of the device of a step
abbrev pub checkback_of_kind : CentreRows → StepKind → ℤ
checkback_of_kind rows (kinds.Operate device value) = (device_of rows device).checkback
checkback_of_kind rows kind = pos 0

abbrev pub checkback_of : CentreRows → List Step → ℤ
checkback_of rows [] = pos 0
checkback_of rows (step ∷ more) = checkback_of_kind rows step.kind

-- the table's checkback has the device operated; another number ends the association
abbrev pub compared : ℤ → ℤ → Playing → PlayTurn
compared want got p =
    if int_eq got want then turned_to doings.Reply p
    else (p, nexts.End (record { want = want; got = got }))

-- a select that failed or was answered otherwise ends its step
abbrev pub checked : CentreRows → ℤ → Option ℤ → Playing → PlayTurn
checked rows want None p = step_done rows p
checked rows want (Some got) p = compared want got p

abbrev pub selected : CentreRows → ReplyKind → Playing → PlayTurn
selected rows reply p =
    checked rows (checkback_of rows p.rest)
    (number_answered (checkback_of rows p.rest) reply) p

-- the reply that was awaited
abbrev pub answered : CentreRows → ReplyKind → Doing → Playing → PlayTurn
answered rows reply doings.Select p = selected rows reply p
answered rows reply doing p = step_done rows p

-- one of so many reports has come
abbrev pub counted_down : CentreRows → ℕ → Playing → PlayTurn
counted_down rows left p =
    if nat_le left 1 then step_done rows p
    else turned_to (doings.Reports (left - 1)) p

-- a report is heard: a wait is done by as many as it waits for
abbrev pub report_counted : CentreRows → Doing → Playing → PlayTurn
report_counted rows (doings.Reports left) p = counted_down rows left p
report_counted rows doing p = (p, nexts.Wait)

-- the number of the line that is being done, once the association stands and before its conclude
abbrev pub line_of_first : List Step → Option ℕ
line_of_first [] = None
line_of_first (step ∷ more) = Some step.line

abbrev pub line_awaited : Awaiting → List Step → Option ℕ
line_awaited awaits.Association rest = None
line_awaited awaiting rest = line_of_first rest

-- what every script that is played over these tables keeps: its peer is there, and the steps that
-- aren't done may be played
pub record IsPlay (rows : CentreRows) (p : Playing) : Type 0 where
  pub peer : p.peer < length rows.tables
  pub rest : All (λ step. IsStep rows p.peer step.kind) p.rest
