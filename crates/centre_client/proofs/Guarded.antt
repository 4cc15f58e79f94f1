-- A value is written only behind a checkback.
use Rattle.std.proofs.Common.{◌≡◌, ℕ, ℤ, Bool, true, false, List, [], ◌∷◌, Option, Some, None}
use Rattle.std.proofs.Common.{refl, ap, subst, ◌∙◌}
use Rattle.std.specs.Prelude.{if◌then◌else◌, nat_le, ◌-◌}
use Rattle.std.specs.Ordering.{int_eq}
use Rattle.std.proofs.lemmas.Bool.Decides.{Decides-int_eq}
use Rattle.mms_services.specs.declared.pdu.MmsPdu.{MmsPdu}
use Rattle.stack_assoc.specs.declared.messages.fault.Layer.TheVariants as layers
use Rattle.stack_assoc.specs.declared.input.StackIn.{StackIn}
use Rattle.stack_assoc.specs.declared.input.StackIn.TheVariants as inputs
use Rattle.stack_assoc.specs.Arrivals.{is_concluded_pdu}
use Rattle.bilateral.specs.Rows.{CentreRows, device_of}
use Rattle.tase_views.specs.declared.reply.ReplyKind.{ReplyKind}
use Rattle.tase_views.specs.declared.reply.ReportKind.{ReportKind}
use Rattle.tase_conn.specs.Map.Replied.{reply_in, report_in, answered_number}
use Rattle.asking_end.specs.declared.asker.Asker.{Asker}
use Rattle.asking_end.specs.declared.asker.Awaiting.{Awaiting}
use Rattle.asking_end.specs.declared.asker.Awaiting.TheVariants as awaits
use Rattle.asking_end.specs.declared.asker.AskMove.{AskMove}
use Rattle.asking_end.specs.declared.asker.AskMove.TheVariants as moves
use Rattle.asking_end.specs.declared.next.Next.TheVariants as nexts
use Rattle.asking_end.specs.Asking.{AskTurn, went_by, is_awaited, number_awaited, move_unawaited}
use Rattle.asking_end.specs.Asking.{reply_heeded, report_counted as report_told, concluded_for}
use Rattle.asking_end.specs.Asking.{answered as answer_heeded}
use Rattle.asking_end.specs.Hearings.{accept_heeded, service_heeded, unreplied_heeded}
use Rattle.asking_end.specs.Hearings.{replied_heeded, input_heeded, refused_at}
use Rattle.centre_client.specs.declared.play.Checkback.{Checkback}
use Rattle.centre_client.specs.declared.play.Doing.{Doing}
use Rattle.centre_client.specs.declared.play.Doing.TheVariants as doings
use Rattle.centre_client.specs.declared.script.Step.{Step}
use Rattle.centre_client.specs.declared.script.StepKind.{StepKind}
use Rattle.centre_client.specs.declared.script.StepKind.TheVariants as kinds
use Rattle.centre_client.specs.Plays.{Playing, PlayTurn, doing_of_operate, doing_first, doing_by}
use Rattle.centre_client.specs.Plays.{begun_by, begun, step_done, turned_to, left_behind, compared}
use Rattle.centre_client.specs.Plays.{checked, number_answered, checkback_of, answered}
use Rattle.centre_client.specs.Plays.{report_counted}
use Rattle.centre_client.specs.Scripted.{Scripted, played, script_acts}
use Rattle.centre_client.specs.Guards.{IsGuardedKind, IsGuardedFirst, AwaitsWrite, IsCheckedBack}

-- a step that is begun begins with its select
operate_writes : (direct : Bool) → doing_of_operate direct ≡ doings.Reply → direct ≡ false → ⊥
operate_writes true e guarded = absurd cc
operate_writes false e guarded = absurd cc

kind_writes : (rows : CentreRows) (kind : StepKind) → doing_first rows kind ≡ doings.Reply
    → IsGuardedKind rows kind → ⊥
kind_writes rows (kinds.Call call) e guarded = guarded
kind_writes rows (kinds.Operate device value) e guarded =
    operate_writes (device_of rows device).direct e guarded
kind_writes rows (kinds.Wait reports) e guarded = guarded

begin_writes : (rows : CentreRows) (rest : List Step) → doing_by rows rest ≡ Some doings.Reply
    → IsGuardedFirst rows rest → ⊥
begin_writes rows [] e guarded = guarded
begin_writes rows (step ∷ more) e guarded = kind_writes rows step.kind (cc) guarded

-- where a write is said behind a move, it is checked
abbrev IfSaid : StackIn → Asker Scripted → Asker Scripted → AskMove Checkback → Type 0
IfSaid input p q moves.Say = AwaitsWrite q → IsCheckedBack input p q
IfSaid input p q move = Unit {0}

abbrev Guards : StackIn → Asker Scripted → AskTurn Scripted Checkback → Type 0
Guards input p m = IfSaid input p m.0 m.1

-- what a script has come to, as what comes of it
abbrev came_to : CentreRows → PlayTurn → Asker Scripted → AskTurn Scripted Checkback
came_to rows m p = went_by (played rows m) p

by-guards : (rows : CentreRows) (input : StackIn) (p at : Asker Scripted) (q : Playing)
    (doing : Option Doing) → doing_by rows q.rest ≡ doing
    → Guards input p (came_to rows (begun_by doing q) at)
by-guards rows input p at q None e = λ w. absurd (cc w.reply)
by-guards rows input p at q (Some doings.Select) e = λ w. absurd (cc w.doing)
by-guards rows input p at q (Some doings.Reply) e = λ w. absurd (begin_writes rows q.rest e w.step)
by-guards rows input p at q (Some (doings.Reports left)) e = tt

begun-guards : (rows : CentreRows) (input : StackIn) (p at : Asker Scripted) (q : Playing)
    → Guards input p (came_to rows (begun rows q) at)
begun-guards rows input p at q = by-guards rows input p at q (doing_by rows q.rest) refl

waits-guards : (number : Option ℕ) (input : StackIn) (p : Asker Scripted)
    → Guards input p (p, move_unawaited number)
waits-guards None input p = tt
waits-guards (Some number) input p = tt

-- a reply that a PDU is, and that is awaited
module _ (pdu : MmsPdu) (reply : ReplyKind) (told : reply_in pdu ≡ Some reply) (p : Asker Scripted)
    (awaited : is_awaited (number_awaited p) (answered_number pdu) ≡ true) where
  abbrev input : StackIn
  input = inputs.Pdu pdu

  abbrev rows : CentreRows
  rows = p.agenda.rows

  abbrev play : Playing
  play = p.agenda.play

  abbrev want : ℤ
  want = checkback_of rows play.rest

  compared-guards : (got : ℤ) → play.doing ≡ doings.Select
      → number_answered want reply ≡ Some got
      → Guards input p (came_to rows (compared want got play) p)
  compared-guards got select is = one (int_eq got want) refl
    where
      one : (same : Bool) → int_eq got want ≡ same → Guards input p (came_to rows
          (if same then turned_to doings.Reply play
          else (play, nexts.End (record { want = want; got = got }))) p)
      one true e = λ w. record {
        pdu = pdu;
        is = refl;
        reply = reply;
        told = told;
        awaited = awaited;
        select = select;
        step = refl;
        answer = is ∙ ap (λ (z : ℤ). Some z) ((Decides-int_eq got want).0 e);
      }
      one false e = tt

  checked-guards : (got : Option ℤ) → play.doing ≡ doings.Select
      → number_answered want reply ≡ got
      → Guards input p (came_to rows (checked rows want got play) p)
  checked-guards None select is = begun-guards rows input p p (left_behind play)
  checked-guards (Some got) select is = compared-guards got select is

  answered-guards : (doing : Doing) → play.doing ≡ doing
      → Guards input p (came_to rows (answered rows reply doing play) p)
  answered-guards doings.Select select =
      checked-guards (number_answered want reply) select refl
  answered-guards doings.Reply e = begun-guards rows input p p (left_behind play)
  answered-guards (doings.Reports left) e = begun-guards rows input p p (left_behind play)

reply-guards : (pdu : MmsPdu) (reply : ReplyKind) → reply_in pdu ≡ Some reply
    → (p : Asker Scripted)
    → Guards (inputs.Pdu pdu) p (reply_heeded script_acts (answered_number pdu) reply p)
reply-guards pdu reply told p = one (is_awaited (number_awaited p) (answered_number pdu)) refl
  where
    one : (awaited : Bool) → is_awaited (number_awaited p) (answered_number pdu) ≡ awaited
        → Guards (inputs.Pdu pdu) p (if awaited then answer_heeded script_acts reply p
        else (p, move_unawaited (answered_number pdu)))
    one true e = answered-guards pdu reply told p e p.agenda.play.doing refl
    one false e = waits-guards (answered_number pdu) (inputs.Pdu pdu) p

module _ (input : StackIn) where
  counted-guards : (left : ℕ) (p : Asker Scripted)
      → Guards input p (came_to p.agenda.rows
      (report_counted p.agenda.rows (doings.Reports left) p.agenda.play) p)
  counted-guards left p = one (nat_le left 1)
    where
      one : (last : Bool) → Guards input p (came_to p.agenda.rows
          (if last then step_done p.agenda.rows p.agenda.play
          else turned_to (doings.Reports (left - 1)) p.agenda.play) p)
      one true = begun-guards p.agenda.rows input p p (left_behind p.agenda.play)
      one false = tt

  reported-guards : (doing : Doing) (p : Asker Scripted)
      → Guards input p (came_to p.agenda.rows
      (report_counted p.agenda.rows doing p.agenda.play) p)
  reported-guards (doings.Reports left) p = counted-guards left p
  reported-guards doings.Select p = tt
  reported-guards doings.Reply p = tt

  report-guards : (awaiting : Awaiting) (report : ReportKind) (p : Asker Scripted)
      → Guards input p (report_told script_acts awaiting report p)
  report-guards awaits.Nothing report p = reported-guards p.agenda.play.doing p
  report-guards awaits.Association report p = tt
  report-guards awaits.Reply report p = tt
  report-guards awaits.Conclusion report p = tt
  report-guards awaits.Release report p = tt

  concluded-guards : (awaiting : Awaiting) (p : Asker Scripted)
      → Guards input p (concluded_for script_acts awaiting p)
  concluded-guards awaits.Conclusion p = λ w. absurd (cc w.reply)
  concluded-guards awaits.Association p = tt
  concluded-guards awaits.Reply p = tt
  concluded-guards awaits.Nothing p = tt
  concluded-guards awaits.Release p = tt

  service-guards : (pdu : MmsPdu) (p : Asker Scripted)
      → Guards input p (service_heeded script_acts pdu p)
  service-guards pdu p = one (is_concluded_pdu (Some pdu))
    where
      one : (concluded : Bool) → Guards input p
          (if concluded then concluded_for script_acts p.awaiting p else refused_at layers.Mms p)
      one true = concluded-guards p.awaiting p
      one false = tt

  unreplied-guards : (pdu : MmsPdu) (report : Option ReportKind) (p : Asker Scripted)
      → Guards input p (unreplied_heeded script_acts pdu report p)
  unreplied-guards pdu (Some report) p = report-guards p.awaiting report p
  unreplied-guards pdu None p = service-guards pdu p

  accept-guards : (awaiting : Awaiting) (p : Asker Scripted)
      → Guards input p (accept_heeded script_acts awaiting p)
  accept-guards awaits.Association p = begun-guards p.agenda.rows input p p p.agenda.play
  accept-guards awaits.Reply p = tt
  accept-guards awaits.Nothing p = tt
  accept-guards awaits.Conclusion p = tt
  accept-guards awaits.Release p = tt

replied-guards : (pdu : MmsPdu) (reply : Option ReplyKind) (p : Asker Scripted)
    → reply_in pdu ≡ reply
    → Guards (inputs.Pdu pdu) p (replied_heeded script_acts pdu reply p)
replied-guards pdu (Some reply) p e = reply-guards pdu reply e p
replied-guards pdu None p e = unreplied-guards (inputs.Pdu pdu) pdu (report_in pdu) p

input-guards : (input : StackIn) (p : Asker Scripted)
    → Guards input p (input_heeded script_acts input p)
input-guards (inputs.Offer title initiate) p = tt
input-guards inputs.BadOffer p = tt
input-guards (inputs.Accepted initiate) p =
    accept-guards (inputs.Accepted initiate) p.awaiting p
input-guards (inputs.Pdu pdu) p = replied-guards pdu (reply_in pdu) p refl
input-guards (inputs.BadRequest invoke) p = tt
input-guards inputs.Released p = tt
input-guards inputs.Aborted p = tt
input-guards inputs.Refused p = tt

-- a write is said only behind its checkback
pub checked_before : (input : StackIn) (p : Asker Scripted)
    → (input_heeded script_acts input p).1 ≡ moves.Say
    → AwaitsWrite (input_heeded script_acts input p).0
    → IsCheckedBack input p (input_heeded script_acts input p).0
checked_before input p e =
    subst (λ (move : AskMove Checkback).
    IfSaid input p (input_heeded script_acts input p).0 move) e (input-guards input p)
