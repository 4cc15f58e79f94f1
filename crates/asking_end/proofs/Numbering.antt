-- Requests have the numbers 1, 2, 3 and so on, up to the highest.
use Rattle.std.proofs.Common.{◌≡◌, ℕ, ◌+◌, ◌<◌, Bool, true, false, Option, Some, None, refl, ap}
use Rattle.std.specs.Prelude.{if◌then◌else◌}
use Rattle.std.proofs.lemmas.Bool.{lt-ltb}
use Rattle.mms_services.specs.declared.pdu.MmsPdu.{MmsPdu}
use Rattle.stack_assoc.specs.declared.messages.fault.Layer.TheVariants as layers
use Rattle.stack_assoc.specs.declared.input.StackIn.{StackIn}
use Rattle.stack_assoc.specs.declared.input.StackIn.TheVariants as inputs
use Rattle.stack_assoc.specs.Arrivals.{is_concluded_pdu}
use Rattle.tase_views.specs.declared.reply.ReplyKind.{ReplyKind}
use Rattle.tase_views.specs.declared.reply.ReportKind.{ReportKind}
use Rattle.tase_conn.specs.Map.Replied.{reply_in, report_in, answered_number}
use Rattle.asking_end.specs.declared.limits.TheConstants.{LAST_INVOKE}
use Rattle.asking_end.specs.declared.next.Next.{Next}
use Rattle.asking_end.specs.declared.next.Next.TheVariants as nexts
use Rattle.asking_end.specs.declared.asker.Asker.{Asker}
use Rattle.asking_end.specs.declared.asker.Awaiting.{Awaiting}
use Rattle.asking_end.specs.declared.asker.Awaiting.TheVariants as awaits
use Rattle.asking_end.specs.Agendas.{AgendaActs}
use Rattle.asking_end.specs.Asking.{AskTurn, request_behind, number_awaited, went_on, is_awaited}
use Rattle.asking_end.specs.Asking.{move_unawaited, answered, reply_heeded, report_counted}
use Rattle.asking_end.specs.Asking.{concluded_for, IsNumbered}
use Rattle.asking_end.specs.Hearings.{accept_heeded, service_heeded, unreplied_heeded}
use Rattle.asking_end.specs.Hearings.{replied_heeded, input_heeded, refused_at}

-- until the highest each number is one more
pub number_rises : (number : ℕ) → number < LAST_INVOKE → request_behind number ≡ number + 1
number_rises number below = ap (λ (b : Bool). if b then number + 1 else 1)
    (lt-ltb number LAST_INVOKE below)

abbrev Numbers : {A E : Type 0} → Asker A → AskTurn A E → Type 0
Numbers p m = IsNumbered m.1 p m.0

went-numbers : {A E : Type 0} (agenda : A) (next : Next E) (p : Asker A)
    → Numbers p (went_on agenda next p)
went-numbers agenda nexts.Wait p = refl
went-numbers agenda nexts.Ask p = refl
went-numbers agenda nexts.Conclude p = refl
went-numbers agenda (nexts.End end) p = refl

module _ {A E I : Type 0} (acts : AgendaActs A E I) where
  waits-numbers : (number : Option ℕ) (p : Asker A)
      → Numbers {A = A} {E = E} p (p, move_unawaited number)
  waits-numbers None p = refl
  waits-numbers (Some number) p = refl

  reply-numbers : (number : Option ℕ) (reply : ReplyKind) (p : Asker A)
      → Numbers p (reply_heeded acts number reply p)
  reply-numbers number reply p = one (is_awaited (number_awaited p) number)
    where
      one : (awaited : Bool) → Numbers p (if awaited then answered acts reply p
          else (p, move_unawaited number))
      one true = went-numbers (acts.replied p.last reply p.agenda).0
          (acts.replied p.last reply p.agenda).1 p
      one false = waits-numbers number p

  report-numbers : (awaiting : Awaiting) (report : ReportKind) (p : Asker A)
      → Numbers p (report_counted acts awaiting report p)
  report-numbers awaits.Nothing report p =
      went-numbers (acts.reported report p.agenda).0 (acts.reported report p.agenda).1 p
  report-numbers awaits.Association report p = refl
  report-numbers awaits.Reply report p = refl
  report-numbers awaits.Conclusion report p = refl
  report-numbers awaits.Release report p = refl

  concluded-numbers : (awaiting : Awaiting) (p : Asker A)
      → Numbers p (concluded_for acts awaiting p)
  concluded-numbers awaits.Conclusion p = refl
  concluded-numbers awaits.Association p = refl
  concluded-numbers awaits.Reply p = refl
  concluded-numbers awaits.Nothing p = refl
  concluded-numbers awaits.Release p = refl

  service-numbers : (pdu : MmsPdu) (p : Asker A) → Numbers p (service_heeded acts pdu p)
  service-numbers pdu p = one (is_concluded_pdu (Some pdu))
    where
      one : (concluded : Bool) → Numbers p
          (if concluded then concluded_for acts p.awaiting p else refused_at layers.Mms p)
      one true = concluded-numbers p.awaiting p
      one false = refl

  unreplied-numbers : (pdu : MmsPdu) (report : Option ReportKind) (p : Asker A)
      → Numbers p (unreplied_heeded acts pdu report p)
  unreplied-numbers pdu (Some report) p = report-numbers p.awaiting report p
  unreplied-numbers pdu None p = service-numbers pdu p

  replied-numbers : (pdu : MmsPdu) (reply : Option ReplyKind) (p : Asker A)
      → Numbers p (replied_heeded acts pdu reply p)
  replied-numbers pdu (Some reply) p = reply-numbers (answered_number pdu) reply p
  replied-numbers pdu None p = unreplied-numbers pdu (report_in pdu) p

  accept-numbers : (awaiting : Awaiting) (p : Asker A) → Numbers p (accept_heeded acts awaiting p)
  accept-numbers awaits.Association p =
      went-numbers (acts.begun p.agenda).0 (acts.begun p.agenda).1 p
  accept-numbers awaits.Reply p = refl
  accept-numbers awaits.Nothing p = refl
  accept-numbers awaits.Conclusion p = refl
  accept-numbers awaits.Release p = refl

  pub input-numbers : (input : StackIn) (p : Asker A)
      → IsNumbered (input_heeded acts input p).1 p (input_heeded acts input p).0
  input-numbers (inputs.Offer title initiate) p = refl
  input-numbers inputs.BadOffer p = refl
  input-numbers (inputs.Accepted initiate) p = accept-numbers p.awaiting p
  input-numbers (inputs.Pdu pdu) p = replied-numbers pdu (reply_in pdu) p
  input-numbers (inputs.BadRequest invoke) p = refl
  input-numbers inputs.Released p = refl
  input-numbers inputs.Aborted p = refl
  input-numbers inputs.Refused p = refl
