-- What an agenda has become by what was heard.
use Rattle.std.proofs.Common.{◌≡◌, ℕ, Bool, true, false, Option, Some, None, subst, sym, ap}
use Rattle.std.specs.Prelude.{if◌then◌else◌}
use Rattle.mms_services.specs.declared.pdu.MmsPdu.{MmsPdu}
use Rattle.stack_assoc.specs.declared.messages.fault.Layer.TheVariants as layers
use Rattle.stack_assoc.specs.declared.input.StackIn.{StackIn}
use Rattle.stack_assoc.specs.declared.input.StackIn.TheVariants as inputs
use Rattle.stack_assoc.specs.Arrivals.{is_concluded_pdu}
use Rattle.tase_views.specs.declared.reply.ReplyKind.{ReplyKind}
use Rattle.tase_views.specs.declared.reply.ReportKind.{ReportKind}
use Rattle.tase_conn.specs.Map.Replied.{reply_in, report_in, answered_number}
use Rattle.asking_end.specs.declared.asker.Asker.{Asker}
use Rattle.asking_end.specs.declared.asker.Awaiting.{Awaiting}
use Rattle.asking_end.specs.declared.asker.Awaiting.TheVariants as awaits
use Rattle.asking_end.specs.declared.next.Next.{Next}
use Rattle.asking_end.specs.declared.next.Next.TheVariants as nexts
use Rattle.asking_end.specs.Agendas.{AgendaActs, Becomes, as_before, by_begin, by_reply, by_report}
use Rattle.asking_end.specs.Asking.{AskTurn, went_on, answered, is_awaited, number_awaited}
use Rattle.asking_end.specs.Asking.{move_unawaited, reply_heeded, report_counted, concluded_for}
use Rattle.asking_end.specs.Hearings.{accept_heeded, service_heeded, unreplied_heeded}
use Rattle.asking_end.specs.Hearings.{replied_heeded, input_heeded, refused_at}

-- one after another
pub becomes_then : {A E I : Type 0} (acts : AgendaActs A E I) (old mid new : A)
    → Becomes acts old mid → Becomes acts mid new → Becomes acts old new
becomes_then acts old mid new first as_before = first
becomes_then acts old mid new first (by_begin now later) =
    by_begin now (becomes_then acts old mid now first later)
becomes_then acts old mid new first (by_reply now number reply later) =
    by_reply now number reply (becomes_then acts old mid now first later)
becomes_then acts old mid new first (by_report now report later) =
    by_report now report (becomes_then acts old mid now first later)

-- an agenda that is another's, which an agenda may become
pub becomes_this : {A E I : Type 0} (acts : AgendaActs A E I) (old mid new : A) → new ≡ mid
    → Becomes acts old mid → Becomes acts old new
becomes_this acts old mid new is b = subst (λ a. Becomes acts old a) (sym is) b

module _ {A E I : Type 0} (acts : AgendaActs A E I) where
  -- what a message leaves an agenda
  abbrev Turns : Asker A → AskTurn A E → Type 0
  Turns p m = Becomes acts p.agenda m.0.agenda

  went : (agenda : A) (next : Next E) (p q : Asker A) → Becomes acts p.agenda agenda
      → Turns p (went_on agenda next q)
  went agenda nexts.Wait p q b = b
  went agenda nexts.Ask p q b = b
  went agenda nexts.Conclude p q b = b
  went agenda (nexts.End end) p q b = b

  either : (p : Asker A) (test : Bool) (one other : AskTurn A E) → Turns p one → Turns p other
      → Turns p (if test then one else other)
  either p true one other first second = first
  either p false one other first second = second

  reply : (number : Option ℕ) (kind : ReplyKind) (p : Asker A)
      → Turns p (reply_heeded acts number kind p)
  reply number kind p = either p (is_awaited (number_awaited p) number) (answered acts kind p)
      (p, move_unawaited number)
      (went (acts.replied p.last kind p.agenda).0 (acts.replied p.last kind p.agenda).1 p p
      (by_reply p.agenda p.last kind as_before)) as_before

  report : (awaiting : Awaiting) (kind : ReportKind) (p : Asker A)
      → Turns p (report_counted acts awaiting kind p)
  report awaits.Nothing kind p = went (acts.reported kind p.agenda).0
      (acts.reported kind p.agenda).1 p p (by_report p.agenda kind as_before)
  report awaits.Association kind p = as_before
  report awaits.Reply kind p = as_before
  report awaits.Conclusion kind p = as_before
  report awaits.Release kind p = as_before

  conclusion : (awaiting : Awaiting) (p : Asker A) → Turns p (concluded_for acts awaiting p)
  conclusion awaits.Conclusion p = as_before
  conclusion awaits.Association p = as_before
  conclusion awaits.Reply p = as_before
  conclusion awaits.Nothing p = as_before
  conclusion awaits.Release p = as_before

  service : (pdu : MmsPdu) (p : Asker A) → Turns p (service_heeded acts pdu p)
  service pdu p = either p (is_concluded_pdu (Some pdu)) (concluded_for acts p.awaiting p)
      (refused_at layers.Mms p) (conclusion p.awaiting p) as_before

  unreplied : (pdu : MmsPdu) (kind : Option ReportKind) (p : Asker A)
      → Turns p (unreplied_heeded acts pdu kind p)
  unreplied pdu (Some kind) p = report p.awaiting kind p
  unreplied pdu None p = service pdu p

  replied : (pdu : MmsPdu) (kind : Option ReplyKind) (p : Asker A)
      → Turns p (replied_heeded acts pdu kind p)
  replied pdu (Some kind) p = reply (answered_number pdu) kind p
  replied pdu None p = unreplied pdu (report_in pdu) p

  acceptance : (awaiting : Awaiting) (p : Asker A) → Turns p (accept_heeded acts awaiting p)
  acceptance awaits.Association p = went (acts.begun p.agenda).0 (acts.begun p.agenda).1 p p
      (by_begin p.agenda as_before)
  acceptance awaits.Reply p = as_before
  acceptance awaits.Nothing p = as_before
  acceptance awaits.Conclusion p = as_before
  acceptance awaits.Release p = as_before

  pub input_becomes : (input : StackIn) (p : Asker A)
      → Becomes acts p.agenda (input_heeded acts input p).0.agenda
  input_becomes (inputs.Offer title initiate) p = as_before
  input_becomes inputs.BadOffer p = as_before
  input_becomes (inputs.Accepted initiate) p = acceptance p.awaiting p
  input_becomes (inputs.Pdu pdu) p = replied pdu (reply_in pdu) p
  input_becomes (inputs.BadRequest invoke) p = as_before
  input_becomes inputs.Released p = as_before
  input_becomes inputs.Aborted p = as_before
  input_becomes inputs.Refused p = as_before
