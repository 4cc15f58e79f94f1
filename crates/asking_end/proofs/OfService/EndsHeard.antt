-- What a calling end hears never ends it by want of memory.
use Rattle.std.proofs.Common.{◌≡◌, ℕ, Bool, true, false, List, [], ◌∷◌, Option, Some, None}
use Rattle.std.proofs.Common.{subst}
use Rattle.std.specs.Prelude.{if◌then◌else◌, Result, Ok, Err}
use Rattle.tpkt_cotp.specs.Places.{Stream, messages_of, stream_in}
use Rattle.tpkt_cotp.specs.Streams.{Message}
use Rattle.tpkt_cotp.specs.declared.turn.Role.TheVariants.{Calling}
use Rattle.mms_services.specs.declared.pdu.MmsPdu.{MmsPdu}
use Rattle.stack_assoc.specs.declared.messages.fault.StackFault.{StackFault}
use Rattle.stack_assoc.specs.declared.messages.fault.Layer.TheVariants as layers
use Rattle.stack_assoc.specs.Arrivals.{Arrival, is_concluded_pdu}
use Rattle.stack_assoc.specs.Handing.{stack_in}
use Rattle.stack_assoc.specs.declared.input.StackIn.{StackIn}
use Rattle.stack_assoc.specs.declared.input.StackIn.TheVariants as inputs
use Rattle.tase_views.specs.declared.reply.ReplyKind.{ReplyKind}
use Rattle.tase_views.specs.declared.reply.ReportKind.{ReportKind}
use Rattle.tase_conn.specs.Map.Readings.{broken_at_end}
use Rattle.tase_conn.specs.Map.Replied.{reply_in, report_in, answered_number}
use Rattle.asking_end.specs.declared.next.Next.{Next}
use Rattle.asking_end.specs.declared.next.Next.TheVariants as nexts
use Rattle.asking_end.specs.declared.asker.Asker.{Asker}
use Rattle.asking_end.specs.declared.asker.Awaiting.{Awaiting}
use Rattle.asking_end.specs.declared.asker.Awaiting.TheVariants as awaits
use Rattle.asking_end.specs.declared.asker.AskMove.{AskMove}
use Rattle.asking_end.specs.declared.asker.AskMove.TheVariants as moves
use Rattle.asking_end.specs.declared.end.AskEnd.{AskEnd}
use Rattle.asking_end.specs.declared.end.AskEnd.TheVariants as ends
use Rattle.asking_end.specs.Agendas.{AgendaActs}
use Rattle.asking_end.specs.Asking.{AskTurn, went_on, answered, is_awaited, number_awaited}
use Rattle.asking_end.specs.Asking.{move_unawaited, reply_heeded, report_counted, concluded_for}
use Rattle.asking_end.specs.Asking.{released}
use Rattle.asking_end.specs.Hearings.{accept_heeded, service_heeded, unreplied_heeded}
use Rattle.asking_end.specs.Hearings.{replied_heeded, input_heeded, refused_at}
use Rattle.asking_end.specs.Askers.{AskerState, AskerStep, unless_ended, moved}
use Rattle.asking_end.specs.Askers.{handed_step, with_told, asker_step, arrival_by}
use Rattle.asking_end.specs.Askers.{message_step, end_step, asker_from, asker_start}
use Rattle.asking_end.specs.Askers.{asker_behind, asker_of}

-- it is another end, or none
abbrev IsHeard : {E : Type 0} → Option (AskEnd E) → Type 0
IsHeard None = Unit {0}
IsHeard (Some ends.Memory) = ⊥
IsHeard (Some end) = Unit {0}

abbrev IsHeardMove : {E : Type 0} → AskMove E → Type 0
IsHeardMove moves.Wait = Unit {0}
IsHeardMove moves.Say = Unit {0}
IsHeardMove (moves.End end) = IsHeard (Some end)

abbrev IsHeardTurn : {A E : Type 0} → AskTurn A E → Type 0
IsHeardTurn m = IsHeardMove m.1

-- ---- a message

either : {A E : Type 0} (test : Bool) (one other : AskTurn A E) → IsHeardTurn one
    → IsHeardTurn other → IsHeardTurn (if test then one else other)
either true one other first second = first
either false one other first second = second

went : {A E : Type 0} (agenda : A) (next : Next E) (p : Asker A)
    → IsHeardTurn (went_on agenda next p)
went agenda nexts.Wait p = tt
went agenda nexts.Ask p = tt
went agenda nexts.Conclude p = tt
went agenda (nexts.End end) p = tt

release : (E : Type 0) (awaiting : Awaiting) → IsHeard {E = E} (Some (released awaiting))
release E awaits.Release = tt
release E awaits.Association = tt
release E awaits.Reply = tt
release E awaits.Nothing = tt
release E awaits.Conclusion = tt

unawaited : (E : Type 0) (number : Option ℕ) → IsHeardMove {E = E} (move_unawaited number)
unawaited E None = tt
unawaited E (Some number) = tt

module _ {A E I : Type 0} (acts : AgendaActs A E I) where
  reply : (number : Option ℕ) (reply : ReplyKind) (p : Asker A)
      → IsHeardTurn (reply_heeded acts number reply p)
  reply number kind p = either (is_awaited (number_awaited p) number) (answered acts kind p)
      (p, move_unawaited number)
      (went (acts.replied p.last kind p.agenda).0 (acts.replied p.last kind p.agenda).1 p)
      (unawaited E number)

  report : (awaiting : Awaiting) (kind : ReportKind) (p : Asker A)
      → IsHeardTurn (report_counted acts awaiting kind p)
  report awaits.Nothing kind p =
      went (acts.reported kind p.agenda).0 (acts.reported kind p.agenda).1 p
  report awaits.Association kind p = tt
  report awaits.Reply kind p = tt
  report awaits.Conclusion kind p = tt
  report awaits.Release kind p = tt

  conclusion : (awaiting : Awaiting) (p : Asker A) → IsHeardTurn (concluded_for acts awaiting p)
  conclusion awaits.Conclusion p = tt
  conclusion awaits.Association p = tt
  conclusion awaits.Reply p = tt
  conclusion awaits.Nothing p = tt
  conclusion awaits.Release p = tt

  acceptance : (awaiting : Awaiting) (p : Asker A) → IsHeardTurn (accept_heeded acts awaiting p)
  acceptance awaits.Association p =
      went (acts.begun p.agenda).0 (acts.begun p.agenda).1 p
  acceptance awaits.Reply p = tt
  acceptance awaits.Nothing p = tt
  acceptance awaits.Conclusion p = tt
  acceptance awaits.Release p = tt

  service : (pdu : MmsPdu) (p : Asker A) → IsHeardTurn (service_heeded acts pdu p)
  service pdu p = either (is_concluded_pdu (Some pdu)) (concluded_for acts p.awaiting p)
      (refused_at layers.Mms p) (conclusion p.awaiting p) tt

  unreplied : (pdu : MmsPdu) (kind : Option ReportKind) (p : Asker A)
      → IsHeardTurn (unreplied_heeded acts pdu kind p)
  unreplied pdu (Some kind) p = report p.awaiting kind p
  unreplied pdu None p = service pdu p

  replied : (pdu : MmsPdu) (kind : Option ReplyKind) (p : Asker A)
      → IsHeardTurn (replied_heeded acts pdu kind p)
  replied pdu (Some kind) p = reply (answered_number pdu) kind p
  replied pdu None p = unreplied pdu (report_in pdu) p

  input_heard : (input : StackIn) (p : Asker A) → IsHeardTurn (input_heeded acts input p)
  input_heard (inputs.Offer title initiate) p = tt
  input_heard inputs.BadOffer p = tt
  input_heard (inputs.Accepted initiate) p = acceptance p.awaiting p
  input_heard (inputs.Pdu pdu) p = replied pdu (reply_in pdu) p
  input_heard (inputs.BadRequest invoke) p = tt
  input_heard inputs.Released p = release E p.awaiting
  input_heard inputs.Aborted p = tt
  input_heard inputs.Refused p = tt

  -- ---- a step

  move_heard : (p : Asker A) (move : AskMove E) (s : AskerState A E)
      → IsHeardMove move → IsHeard s.end → IsHeard (moved acts p move s).state.end
  move_heard p moves.Wait s is before = before
  move_heard p moves.Say s is before = before
  move_heard p (moves.End end) s is before = is

  handed : (input : Option StackIn) (s : AskerState A E) → IsHeard s.end
      → IsHeard (handed_step acts input s).state.end
  handed None s before = before
  handed (Some input) s before =
      let m : AskTurn A E = input_heeded acts input s.asker in
      move_heard m.0 m.1 s (input_heard input s.asker) before

  step : (t : Arrival) (s : AskerState A E) → IsHeard s.end
      → IsHeard (asker_step acts t s).state.end
  step t s before = handed (stack_in t) (with_told t s) before

  unless : (end : Option (AskEnd E)) (s : AskerState A E) (r : AskerStep A E I) → IsHeard s.end
      → IsHeard r.state.end → IsHeard (unless_ended end s r).state.end
  unless None s r before behind = behind
  unless (Some end) s r before behind = before

  last : (broken : Option StackFault) (s : AskerState A E) → IsHeard s.end
      → IsHeard (end_step {A = A} {E = E} {I = I} broken s).state.end
  last None s before = before
  last (Some fault) s before = tt

  -- ---- all of it

  came_heard : (next : AskerState A E → AskerStep A E I) (s : AskerState A E)
      (came : Result Arrival StackFault) → IsHeard s.end
      → ((t : AskerState A E) → IsHeard t.end → IsHeard (next t).state.end)
      → IsHeard (message_step acts next s came).state.end
  came_heard next s (Ok t) before goes =
      goes (asker_step acts t s).state (step t s before)
  came_heard next s (Err fault) before goes = tt

  all : (broken : Option StackFault) (ms : List Message) (s : AskerState A E)
      → IsHeard s.end → IsHeard (asker_from acts broken ms s).state.end
  all broken [] s before = unless s.end s (end_step broken s) before (last broken s before)
  all broken (m ∷ ms) s before =
      unless s.end s (message_step acts (asker_from acts broken ms) s (arrival_by s.role s.told m))
      before
      (came_heard (asker_from acts broken ms) s (arrival_by s.role s.told m) before
      (λ t heard. all broken ms t heard))

  behind_heard : (title : Option (List ℕ)) (agenda : A) (octets : List ℕ)
      → IsHeard (asker_behind acts title agenda octets).state.end
  unfolding asker_behind
  behind_heard title agenda octets =
      let stream : Stream = stream_in Calling octets in
      all (broken_at_end stream.end) (messages_of stream.messages) (asker_start acts title agenda)
      tt

  pub no_memory : (title : Option (List ℕ)) (agenda : A) (octets : List ℕ)
      → (asker_of acts title agenda octets).state.end ≡ Some ends.Memory → ⊥
  no_memory title agenda octets is =
      subst (λ (end : Option (AskEnd E)). IsHeard end) is (behind_heard title agenda octets)
