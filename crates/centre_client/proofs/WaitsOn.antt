-- What is heard leaves a script its tables and its peer, and where it waits on for a reply, all.
use Rattle.std.proofs.Common.{◌≡◌, ℕ, ℤ, Bool, true, false, List, [], Option, Some, None, refl}
use Rattle.std.proofs.Common.{ap, ◌∙◌}
use Rattle.std.specs.Prelude.{if◌then◌else◌, nat_le, ◌-◌}
use Rattle.std.specs.Ordering.{int_eq}
use Rattle.mms_services.specs.declared.pdu.MmsPdu.{MmsPdu}
use Rattle.stack_assoc.specs.declared.messages.fault.Layer.TheVariants as layers
use Rattle.stack_assoc.specs.declared.input.StackIn.{StackIn}
use Rattle.stack_assoc.specs.declared.input.StackIn.TheVariants as inputs
use Rattle.stack_assoc.specs.Arrivals.{is_concluded_pdu}
use Rattle.bilateral.specs.Rows.{CentreRows}
use Rattle.tase_views.specs.declared.reply.ReplyKind.{ReplyKind}
use Rattle.tase_views.specs.declared.reply.ReportKind.{ReportKind}
use Rattle.tase_conn.specs.Map.Replied.{reply_in, report_in, answered_number}
use Rattle.asking_end.specs.declared.asker.Asker.{Asker}
use Rattle.asking_end.specs.declared.asker.Awaiting.{Awaiting}
use Rattle.asking_end.specs.declared.asker.Awaiting.TheVariants as awaits
use Rattle.asking_end.specs.declared.asker.AskMove.{AskMove}
use Rattle.asking_end.specs.declared.asker.AskMove.TheVariants as moves
use Rattle.asking_end.specs.declared.next.Next.{Next}
use Rattle.asking_end.specs.declared.next.Next.TheVariants as nexts
use Rattle.asking_end.specs.declared.calling.CallingEnd.{CallingEnd}
use Rattle.asking_end.specs.Agendas.{Becomes, as_before, by_begin, by_reply, by_report}
use Rattle.asking_end.specs.Askers.{AskerStep}
use Rattle.asking_end.specs.Callers.{AskerStands}
use Rattle.asking_end.specs.Asking.{AskTurn, went_on, went_by, is_awaited, number_awaited}
use Rattle.asking_end.specs.Asking.{move_unawaited, reply_heeded, concluded_for}
use Rattle.asking_end.specs.Asking.{report_counted as report_told, answered as answer_heeded}
use Rattle.asking_end.specs.Hearings.{accept_heeded, service_heeded, unreplied_heeded}
use Rattle.asking_end.specs.Hearings.{replied_heeded, input_heeded, refused_at}
use Rattle.asking_end.proofs.StepsOn.{nothing_behind}
use Rattle.centre_client.specs.declared.play.Checkback.{Checkback}
use Rattle.centre_client.specs.declared.play.Doing.{Doing}
use Rattle.centre_client.specs.declared.play.Doing.TheVariants as doings
use Rattle.centre_client.specs.Plays.{Playing, PlayTurn, doing_by, begun_by, begun, step_done}
use Rattle.centre_client.specs.Plays.{turned_to, left_behind, checked, answered, number_answered}
use Rattle.centre_client.specs.Plays.{checkback_of, report_counted}
use Rattle.centre_client.specs.Scripted.{Scripted, played, script_acts}

-- where it waits on for a reply it stands as before
abbrev pub StandsStill : AskMove Checkback → Asker Scripted → Asker Scripted → Type 0
StandsStill moves.Wait p q = q.awaiting ≡ awaits.Reply → q ≡ p
StandsStill move p q = Unit {0}

pub record WaitsOn (p : Asker Scripted) (m : AskTurn Scripted Checkback) : Type 0 where
  pub rows : m.0.agenda.rows ≡ p.agenda.rows
  pub peer : m.0.agenda.play.peer ≡ p.agenda.play.peer
  pub same : StandsStill m.1 p m.0

either : (p : Asker Scripted) (test : Bool) (one other : AskTurn Scripted Checkback)
    → WaitsOn p one → WaitsOn p other → WaitsOn p (if test then one else other)
either p true one other first second = first
either p false one other first second = second

unmoved : (p : Asker Scripted) (move : AskMove Checkback) → WaitsOn p (p, move)
unmoved p moves.Wait = record { rows = refl; peer = refl; same = λ e. refl }
unmoved p moves.Say = record { rows = refl; peer = refl; same = tt }
unmoved p (moves.End end) = record { rows = refl; peer = refl; same = tt }

abbrev scripted_so : CentreRows → Playing → Scripted
scripted_so rows play = record { rows = rows; play = play }

-- the script has come to this, of the same peer
went : (p : Asker Scripted) (play : Playing) (next : Next Checkback)
    → play.peer ≡ p.agenda.play.peer
    → WaitsOn p (went_on (scripted_so p.agenda.rows play) next p)
went p play nexts.Wait e = record { rows = refl; peer = e; same = λ awaited. absurd cc }
went p play nexts.Ask e = record { rows = refl; peer = e; same = tt }
went p play nexts.Conclude e = record { rows = refl; peer = e; same = tt }
went p play (nexts.End end) e = record { rows = refl; peer = e; same = tt }

-- a turn of the script leaves it its peer
abbrev KeepsPeer : Playing → PlayTurn → Type 0
KeepsPeer p m = m.0.peer ≡ p.peer

kept : (p : Asker Scripted) (m : PlayTurn) → KeepsPeer p.agenda.play m
    → WaitsOn p (went_by (played p.agenda.rows m) p)
kept p m e = went p m.0 m.1 e

of_two : (p : Playing) (test : Bool) (one other : PlayTurn) → KeepsPeer p one → KeepsPeer p other
    → KeepsPeer p (if test then one else other)
of_two p true one other first second = first
of_two p false one other first second = second

by_doing : (doing : Option Doing) (p q : Playing) → q.peer ≡ p.peer → KeepsPeer p (begun_by doing q)
by_doing None p q e = e
by_doing (Some doing) p q e = e

module _ (rows : CentreRows) where
  begin : (p : Playing) → KeepsPeer p (begun rows p)
  begin p = by_doing (doing_by rows p.rest) p p refl

  done : (p : Playing) → KeepsPeer p (step_done rows p)
  done p = by_doing (doing_by rows (left_behind p).rest) p (left_behind p) refl

  check : (want : ℤ) (got : Option ℤ) (p : Playing) → KeepsPeer p (checked rows want got p)
  check want None p = done p
  check want (Some got) p = of_two p (int_eq got want) (turned_to doings.Reply p)
      (p, nexts.End (record { want = want; got = got })) refl refl

  answer : (reply : ReplyKind) (doing : Doing) (p : Playing)
      → KeepsPeer p (answered rows reply doing p)
  answer reply doings.Select p = check (checkback_of rows p.rest)
      (number_answered (checkback_of rows p.rest) reply) p
  answer reply doings.Reply p = done p
  answer reply (doings.Reports left) p = done p

  count : (doing : Doing) (p : Playing) → KeepsPeer p (report_counted rows doing p)
  count (doings.Reports left) p = of_two p (nat_le left 1) (step_done rows p)
      (turned_to (doings.Reports (left - 1)) p) (done p) refl
  count doings.Select p = refl
  count doings.Reply p = refl

pub reply_waits : (number : Option ℕ) (kind : ReplyKind) (p : Asker Scripted)
    → WaitsOn p (reply_heeded script_acts number kind p)
reply_waits number kind p = either p (is_awaited (number_awaited p) number)
    (answer_heeded script_acts kind p) (p, move_unawaited number)
    (kept p (answered p.agenda.rows kind p.agenda.play.doing p.agenda.play)
    (answer p.agenda.rows kind p.agenda.play.doing p.agenda.play))
    (unmoved p (move_unawaited number))

pub report_waits : (awaiting : Awaiting) (kind : ReportKind) (p : Asker Scripted)
    → WaitsOn p (report_told script_acts awaiting kind p)
report_waits awaits.Nothing kind p =
    kept p (report_counted p.agenda.rows p.agenda.play.doing p.agenda.play)
    (count p.agenda.rows p.agenda.play.doing p.agenda.play)
report_waits awaits.Association kind p = unmoved p moves.Wait
report_waits awaits.Reply kind p = unmoved p moves.Wait
report_waits awaits.Conclusion kind p = unmoved p moves.Wait
report_waits awaits.Release kind p = unmoved p moves.Wait

pub conclusion_waits : (awaiting : Awaiting) (p : Asker Scripted)
    → WaitsOn p (concluded_for script_acts awaiting p)
conclusion_waits awaits.Conclusion p = record { rows = refl; peer = refl; same = tt }
conclusion_waits awaits.Association p = unmoved p moves.Wait
conclusion_waits awaits.Reply p = unmoved p moves.Wait
conclusion_waits awaits.Nothing p = unmoved p moves.Wait
conclusion_waits awaits.Release p = unmoved p moves.Wait

service : (pdu : MmsPdu) (p : Asker Scripted) → WaitsOn p (service_heeded script_acts pdu p)
service pdu p = either p (is_concluded_pdu (Some pdu)) (concluded_for script_acts p.awaiting p)
    (refused_at layers.Mms p) (conclusion_waits p.awaiting p)
    (record { rows = refl; peer = refl; same = tt })

unreplied : (pdu : MmsPdu) (kind : Option ReportKind) (p : Asker Scripted)
    → WaitsOn p (unreplied_heeded script_acts pdu kind p)
unreplied pdu (Some kind) p = report_waits p.awaiting kind p
unreplied pdu None p = service pdu p

replied : (pdu : MmsPdu) (kind : Option ReplyKind) (p : Asker Scripted)
    → WaitsOn p (replied_heeded script_acts pdu kind p)
replied pdu (Some kind) p = reply_waits (answered_number pdu) kind p
replied pdu None p = unreplied pdu (report_in pdu) p

pub acceptance_waits : (awaiting : Awaiting) (p : Asker Scripted)
    → WaitsOn p (accept_heeded script_acts awaiting p)
acceptance_waits awaits.Association p =
    kept p (begun p.agenda.rows p.agenda.play) (begin p.agenda.rows p.agenda.play)
acceptance_waits awaits.Reply p = record { rows = refl; peer = refl; same = tt }
acceptance_waits awaits.Nothing p = record { rows = refl; peer = refl; same = tt }
acceptance_waits awaits.Conclusion p = record { rows = refl; peer = refl; same = tt }
acceptance_waits awaits.Release p = record { rows = refl; peer = refl; same = tt }

pub input_waits : (input : StackIn) (p : Asker Scripted)
    → WaitsOn p (input_heeded script_acts input p)
input_waits (inputs.Offer title initiate) p = record { rows = refl; peer = refl; same = tt }
input_waits inputs.BadOffer p = record { rows = refl; peer = refl; same = tt }
input_waits (inputs.Accepted initiate) p = acceptance_waits p.awaiting p
input_waits (inputs.Pdu pdu) p = replied pdu (reply_in pdu) p
input_waits (inputs.BadRequest invoke) p = record { rows = refl; peer = refl; same = tt }
input_waits inputs.Released p = record { rows = refl; peer = refl; same = tt }
input_waits inputs.Aborted p = record { rows = refl; peer = refl; same = tt }
input_waits inputs.Refused p = record { rows = refl; peer = refl; same = tt }

-- whatever a script becomes, it is over the same tables
pub same_tables : (old new : Scripted) → Becomes script_acts old new → new.rows ≡ old.rows
same_tables old new as_before = refl
same_tables old new (by_begin now b) = same_tables old now b
same_tables old new (by_reply now number reply b) = same_tables old now b
same_tables old new (by_report now report b) = same_tables old now b

-- one that has heard nothing is over the tables that it began with
pub begins_over : (title : Option (List ℕ)) (agenda : Scripted)
    (c : CallingEnd Scripted Checkback) → AskerStands script_acts title agenda [] c
    → c.asker.agenda.rows ≡ agenda.rows
begins_over title agenda c s =
    ap (λ (p : Asker Scripted). p.agenda.rows)
    (s.asker ∙ ap (λ (r : AskerStep Scripted Checkback ℕ). r.state.asker)
    (nothing_behind script_acts title agenda))
