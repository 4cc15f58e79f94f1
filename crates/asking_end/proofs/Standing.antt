-- How a calling end stands to its agenda and to the association behind what it has heard.
use Rattle.std.proofs.Common.{◌≡◌, ℕ, ◌+◌, ◌≤◌, Bool, true, false, Option, Some, None}
use Rattle.std.proofs.Common.{refl, ◌∙◌, arith}
use Rattle.std.specs.Prelude.{if◌then◌else◌, nat_lt}
use Rattle.std.proofs.lemmas.Bool.{ltb-true}
use Rattle.mms_services.specs.declared.pdu.MmsPdu.{MmsPdu}
use Rattle.stack_assoc.specs.declared.messages.fault.Layer.TheVariants as layers
use Rattle.stack_assoc.specs.declared.input.StackIn.{StackIn}
use Rattle.stack_assoc.specs.declared.input.StackIn.TheVariants as inputs
use Rattle.stack_assoc.specs.declared.end_state.EndState.{EndState}
use Rattle.stack_assoc.specs.declared.end_state.EndState.TheVariants as standings
use Rattle.stack_assoc.specs.Arrivals.{is_concluded_pdu}
use Rattle.stack_assoc.specs.Courses.{EndStandsBehind, is_offered}
use Rattle.tase_views.specs.declared.reply.ReplyKind.{ReplyKind}
use Rattle.tase_views.specs.declared.reply.ReportKind.{ReportKind}
use Rattle.tase_conn.specs.Map.Replied.{reply_in, report_in, answered_number}
use Rattle.asking_end.specs.declared.limits.TheConstants.{LAST_INVOKE}
use Rattle.asking_end.specs.declared.next.Next.{Next}
use Rattle.asking_end.specs.declared.next.Next.TheVariants as nexts
use Rattle.asking_end.specs.declared.asker.Asker.{Asker}
use Rattle.asking_end.specs.declared.asker.Awaiting.{Awaiting}
use Rattle.asking_end.specs.declared.asker.Awaiting.TheVariants as awaits
use Rattle.asking_end.specs.declared.asker.AskMove.{AskMove}
use Rattle.asking_end.specs.declared.asker.AskMove.TheVariants as moves
use Rattle.asking_end.specs.Agendas.{AgendaActs}
use Rattle.asking_end.specs.Asking.{AskTurn, HasNumber, request_behind, number_awaited, went_on}
use Rattle.asking_end.specs.Asking.{is_awaited, move_unawaited, answered, reply_heeded}
use Rattle.asking_end.specs.Asking.{report_counted, report_heeded, concluded_for}
use Rattle.asking_end.specs.Hearings.{accept_heeded, service_heeded, unreplied_heeded}
use Rattle.asking_end.specs.Hearings.{replied_heeded, input_heeded, refused_at}
use Rattle.asking_end.specs.Callers.{standing_for}

-- ---- numbers

-- a number is followed by one that requests have
pub request_behind-most : (number : ℕ) → request_behind number ≤ LAST_INVOKE
request_behind-most number = one (nat_lt number LAST_INVOKE) refl
  where
    one : (below : Bool) → nat_lt number LAST_INVOKE ≡ below
        → (if below then number + 1 else 1) ≤ LAST_INVOKE
    one true is = omega (arith, ltb-true number LAST_INVOKE is)
    one false is = omega arith

-- the calling end of a turn
abbrev pub asked_so : {A E : Type 0} → AskTurn A E → Asker A
asked_so m = m.0

pub went-number : {A E : Type 0} (agenda : A) (next : Next E) (p : Asker A) → HasNumber p
    → HasNumber (asked_so (went_on agenda next p))
went-number agenda nexts.Wait p h = h
went-number agenda nexts.Ask p h = request_behind-most p.last
went-number agenda nexts.Conclude p h = h
went-number agenda (nexts.End end) p h = h

module _ {A E I : Type 0} (acts : AgendaActs A E I) where
  pub reply-number : (number : Option ℕ) (reply : ReplyKind) (p : Asker A) → HasNumber p
      → HasNumber (asked_so (reply_heeded acts number reply p))
  reply-number number reply p h = one (is_awaited (number_awaited p) number)
    where
      one : (awaited : Bool) → HasNumber
          (asked_so (if awaited then answered acts reply p else (p, move_unawaited number)))
      one true = went-number (acts.replied p.last reply p.agenda).0
          (acts.replied p.last reply p.agenda).1 p h
      one false = h

  pub report-number : (awaiting : Awaiting) (report : ReportKind) (p : Asker A) → HasNumber p
      → HasNumber (asked_so (report_counted acts awaiting report p))
  report-number awaits.Nothing report p h =
      went-number (acts.reported report p.agenda).0 (acts.reported report p.agenda).1 p h
  report-number awaits.Association report p h = h
  report-number awaits.Reply report p h = h
  report-number awaits.Conclusion report p h = h
  report-number awaits.Release report p h = h

  pub concluded-number : (awaiting : Awaiting) (p : Asker A) → HasNumber p
      → HasNumber (asked_so (concluded_for acts awaiting p))
  concluded-number awaits.Conclusion p h = h
  concluded-number awaits.Association p h = h
  concluded-number awaits.Reply p h = h
  concluded-number awaits.Nothing p h = h
  concluded-number awaits.Release p h = h

  service-number : (pdu : MmsPdu) (p : Asker A) → HasNumber p
      → HasNumber (asked_so (service_heeded acts pdu p))
  service-number pdu p h = one (is_concluded_pdu (Some pdu))
    where
      one : (concluded : Bool) → HasNumber (asked_so
          (if concluded then concluded_for acts p.awaiting p else refused_at layers.Mms p))
      one true = concluded-number p.awaiting p h
      one false = h

  unreplied-number : (pdu : MmsPdu) (report : Option ReportKind) (p : Asker A) → HasNumber p
      → HasNumber (asked_so (unreplied_heeded acts pdu report p))
  unreplied-number pdu (Some report) p h = report-number p.awaiting report p h
  unreplied-number pdu None p h = service-number pdu p h

  replied-number : (pdu : MmsPdu) (reply : Option ReplyKind) (p : Asker A) → HasNumber p
      → HasNumber (asked_so (replied_heeded acts pdu reply p))
  replied-number pdu (Some reply) p h = reply-number (answered_number pdu) reply p h
  replied-number pdu None p h = unreplied-number pdu (report_in pdu) p h

  accept-number : (awaiting : Awaiting) (p : Asker A) → HasNumber p
      → HasNumber (asked_so (accept_heeded acts awaiting p))
  accept-number awaits.Association p h =
      went-number (acts.begun p.agenda).0 (acts.begun p.agenda).1 p h
  accept-number awaits.Reply p h = h
  accept-number awaits.Nothing p h = h
  accept-number awaits.Conclusion p h = h
  accept-number awaits.Release p h = h

  pub input-number : (input : StackIn) (p : Asker A) → HasNumber p
      → HasNumber (input_heeded acts input p).0
  input-number (inputs.Offer title initiate) p h = h
  input-number inputs.BadOffer p h = h
  input-number (inputs.Accepted initiate) p h = accept-number p.awaiting p h
  input-number (inputs.Pdu pdu) p h = replied-number pdu (reply_in pdu) p h
  input-number (inputs.BadRequest invoke) p h = h
  input-number inputs.Released p h = h
  input-number inputs.Aborted p h = h
  input-number inputs.Refused p h = h

-- ---- how the association stands

-- where it goes on, the association stands so that what is awaited may come
abbrev pub StandsForMove : {E : Type 0} → AskMove E → EndState → Awaiting → Type 0
StandsForMove (moves.End end) standing awaiting = Unit {0}
StandsForMove move standing awaiting = standing ≡ standing_for awaiting

abbrev StandsBehind : {A E : Type 0} → EndState → AskTurn A E → Type 0
StandsBehind standing m = StandsForMove m.1 standing m.0.awaiting

pub never_offered : (awaiting : Awaiting) → is_offered (standing_for awaiting) ≡ false
never_offered awaits.Association = refl
never_offered awaits.Reply = refl
never_offered awaits.Nothing = refl
never_offered awaits.Conclusion = refl
never_offered awaits.Release = refl

went-stands : {A E : Type 0} (agenda : A) (next : Next E) (p : Asker A) (standing : EndState)
    → standing ≡ standings.Accepted → StandsBehind standing (went_on agenda next p)
went-stands agenda nexts.Wait p standing e = e
went-stands agenda nexts.Ask p standing e = e
went-stands agenda nexts.Conclude p standing e = e
went-stands agenda (nexts.End end) p standing e = tt

-- a calling end that awaits this
abbrev that_awaits : {A : Type 0} → Awaiting → Asker A → Asker A
that_awaits awaiting p = record p { awaiting = awaiting }

module _ {A E I : Type 0} (acts : AgendaActs A E I) where
  -- what a turn is, with its types
  abbrev turn_of : Asker A → AskMove E → AskTurn A E
  turn_of p m = (p, m)

  unawaited-stands : (number : Option ℕ) (p : Asker A) (standing : EndState)
      → standing ≡ standing_for p.awaiting
      → StandsBehind standing (turn_of p (move_unawaited number))
  unawaited-stands None p standing e = e
  unawaited-stands (Some number) p standing e = tt

  reply-by : (number : Option ℕ) (reply : ReplyKind) (p : Asker A) (standing : EndState)
      (awaited : Bool) → standing ≡ standing_for p.awaiting → standing ≡ standings.Accepted
      → StandsBehind standing
      (if awaited then answered acts reply p else turn_of p (move_unawaited number))
  reply-by number reply p standing true e a =
      went-stands (acts.replied p.last reply p.agenda).0 (acts.replied p.last reply p.agenda).1 p
      standing a
  reply-by number reply p standing false e a = unawaited-stands number p standing e

  reply-stands : (number : Option ℕ) (reply : ReplyKind) (awaiting : Awaiting) (p : Asker A)
      (standing : EndState) → standing ≡ standing_for awaiting
      → StandsBehind standing (reply_heeded acts number reply (that_awaits awaiting p))
  reply-stands number reply awaits.Association p standing e =
      unawaited-stands number (that_awaits awaits.Association p) standing e
  reply-stands number reply awaits.Reply p standing e =
      let q : Asker A = that_awaits awaits.Reply p in
      reply-by number reply q standing (is_awaited (number_awaited q) number) e e
  reply-stands number reply awaits.Nothing p standing e =
      unawaited-stands number (that_awaits awaits.Nothing p) standing e
  reply-stands number reply awaits.Conclusion p standing e =
      unawaited-stands number (that_awaits awaits.Conclusion p) standing e
  reply-stands number reply awaits.Release p standing e =
      unawaited-stands number (that_awaits awaits.Release p) standing e

  report-stands : (awaiting : Awaiting) (report : ReportKind) (p : Asker A) (standing : EndState)
      → standing ≡ standing_for awaiting
      → StandsBehind standing (report_heeded acts report (that_awaits awaiting p))
  report-stands awaits.Nothing report p standing e =
      went-stands (acts.reported report p.agenda).0 (acts.reported report p.agenda).1
      (that_awaits awaits.Nothing p) standing e
  report-stands awaits.Association report p standing e = e
  report-stands awaits.Reply report p standing e = e
  report-stands awaits.Conclusion report p standing e = e
  report-stands awaits.Release report p standing e = e

  concluded-stands : (awaiting : Awaiting) (p : Asker A) (standing : EndState)
      → standing ≡ standing_for awaiting
      → StandsBehind standing (concluded_for acts awaiting (that_awaits awaiting p))
  concluded-stands awaits.Conclusion p standing e = e
  concluded-stands awaits.Association p standing e = e
  concluded-stands awaits.Reply p standing e = e
  concluded-stands awaits.Nothing p standing e = e
  concluded-stands awaits.Release p standing e = e

  service-stands : (pdu : MmsPdu) (p : Asker A) (standing : EndState)
      → standing ≡ standing_for p.awaiting → StandsBehind standing (service_heeded acts pdu p)
  service-stands pdu p standing e = one (is_concluded_pdu (Some pdu))
    where
      one : (concluded : Bool) → StandsBehind standing
          (if concluded then concluded_for acts p.awaiting p else refused_at layers.Mms p)
      one true = concluded-stands p.awaiting p standing e
      one false = tt

  unreplied-stands : (pdu : MmsPdu) (report : Option ReportKind) (p : Asker A)
      (standing : EndState) → standing ≡ standing_for p.awaiting
      → StandsBehind standing (unreplied_heeded acts pdu report p)
  unreplied-stands pdu (Some report) p standing e = report-stands p.awaiting report p standing e
  unreplied-stands pdu None p standing e = service-stands pdu p standing e

  replied-stands : (pdu : MmsPdu) (reply : Option ReplyKind) (p : Asker A) (standing : EndState)
      → standing ≡ standing_for p.awaiting
      → StandsBehind standing (replied_heeded acts pdu reply p)
  replied-stands pdu (Some reply) p standing e =
      reply-stands (answered_number pdu) reply p.awaiting p standing e
  replied-stands pdu None p standing e = unreplied-stands pdu (report_in pdu) p standing e

  accept-stands : (awaiting : Awaiting) (p : Asker A) (standing : EndState)
      → standing ≡ standings.Accepted → StandsBehind standing (accept_heeded acts awaiting p)
  accept-stands awaits.Association p standing e =
      went-stands (acts.begun p.agenda).0 (acts.begun p.agenda).1 p standing e
  accept-stands awaits.Reply p standing e = tt
  accept-stands awaits.Nothing p standing e = tt
  accept-stands awaits.Conclusion p standing e = tt
  accept-stands awaits.Release p standing e = tt

  -- how it stands behind what the stack hands out
  pub input-stands : (input : StackIn) (p : Asker A) (old new : EndState)
      → old ≡ standing_for p.awaiting → EndStandsBehind input old new
      → StandsForMove (input_heeded acts input p).1 new (input_heeded acts input p).0.awaiting
  input-stands (inputs.Offer title initiate) p old new e s = tt
  input-stands inputs.BadOffer p old new e s = tt
  input-stands (inputs.Accepted initiate) p old new e s = accept-stands p.awaiting p new s
  input-stands (inputs.Pdu pdu) p old new e s = replied-stands pdu (reply_in pdu) p new (s ∙ e)
  input-stands (inputs.BadRequest invoke) p old new e s = tt
  input-stands inputs.Released p old new e s = tt
  input-stands inputs.Aborted p old new e s = tt
  input-stands inputs.Refused p old new e s = tt
