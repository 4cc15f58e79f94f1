-- Whatever a client hears, its script may be played on.
use Rattle.std.proofs.Common.{◌≡◌, ℕ, Bool, true, false, Option, Some, None, refl, sym, subst}
use Rattle.std.proofs.Common.{◌∙◌, arith}
use Rattle.std.specs.Prelude.{if◌then◌else◌}
use Rattle.mms_services.specs.declared.pdu.MmsPdu.{MmsPdu}
use Rattle.stack_assoc.specs.declared.messages.fault.Layer.TheVariants as layers
use Rattle.stack_assoc.specs.declared.input.StackIn.{StackIn}
use Rattle.stack_assoc.specs.declared.input.StackIn.TheVariants as inputs
use Rattle.stack_assoc.specs.Arrivals.{is_concluded_pdu}
use Rattle.bilateral.specs.Rows.{CentreRows}
use Rattle.tase_views.specs.declared.reply.ReplyKind.{ReplyKind}
use Rattle.tase_views.specs.declared.reply.ReportKind.{ReportKind}
use Rattle.tase_conn.specs.Map.Replied.{reply_in, report_in, answered_number}
use Rattle.asking_end.specs.declared.asker.Asker.{Asker}
use Rattle.asking_end.specs.declared.asker.Awaiting.{Awaiting}
use Rattle.asking_end.specs.declared.asker.Awaiting.TheVariants as awaits
use Rattle.asking_end.specs.declared.next.Next.{Next}
use Rattle.asking_end.specs.declared.next.Next.TheVariants as nexts
use Rattle.asking_end.specs.Asking.{AskTurn, went_on, is_awaited, number_awaited, move_unawaited}
use Rattle.asking_end.specs.Asking.{reply_heeded, report_counted as report_told, concluded_for}
use Rattle.asking_end.specs.Asking.{answered as answer_heeded, begun as asker_begun, at_call}
use Rattle.asking_end.specs.Asking.{report_heeded, HasNumber}
use Rattle.asking_end.specs.Hearings.{accept_heeded, service_heeded, unreplied_heeded}
use Rattle.asking_end.specs.Hearings.{replied_heeded, input_heeded, refused_at}
use Rattle.centre_client.specs.declared.play.Checkback.{Checkback}
use Rattle.asking_end.proofs.Standing.{went-number, reply-number, report-number, concluded-number}
use Rattle.centre_client.specs.declared.script.Script.{Script}
use Rattle.centre_client.specs.Scripts.{IsScript}
use Rattle.centre_client.specs.Plays.{Playing, IsPlay, begun, answered, report_counted}
use Rattle.centre_client.specs.Scripted.{Scripted, IsPlayed, script_acts, scripted}
use Rattle.centre_client.proofs.PlayedOn.{script_plays, begun-plays, answered-plays, counted-plays}
use Rattle.centre_client.proofs.WaitsOn.{reply_waits, report_waits, conclusion_waits}
use Rattle.centre_client.proofs.WaitsOn.{acceptance_waits}

-- over its tables
abbrev pub MayGoOn : Asker Scripted → Type 0
MayGoOn p = IsPlay p.agenda.rows p.agenda.play

abbrev TurnPlays : AskTurn Scripted Checkback → Type 0
TurnPlays m = MayGoOn m.0

went : (rows : CentreRows) (play : Playing) (next : Next Checkback) (p : Asker Scripted)
    → IsPlay rows play → TurnPlays (went_on (record { rows = rows; play = play }) next p)
went rows play nexts.Wait p h = h
went rows play nexts.Ask p h = h
went rows play nexts.Conclude p h = h
went rows play (nexts.End end) p h = h

either : (test : Bool) (one other : AskTurn Scripted Checkback) → TurnPlays one
    → TurnPlays other → TurnPlays (if test then one else other)
either true one other first second = first
either false one other first second = second

reply : (number : Option ℕ) (kind : ReplyKind) (p : Asker Scripted) → MayGoOn p
    → TurnPlays (reply_heeded script_acts number kind p)
reply number kind p h = either (is_awaited (number_awaited p) number)
    (answer_heeded script_acts kind p) (p, move_unawaited number)
    (went p.agenda.rows (answered p.agenda.rows kind p.agenda.play.doing p.agenda.play).0
    (answered p.agenda.rows kind p.agenda.play.doing p.agenda.play).1 p
    (answered-plays p.agenda.rows kind p.agenda.play.doing p.agenda.play h)) h

report : (awaiting : Awaiting) (kind : ReportKind) (p : Asker Scripted) → MayGoOn p
    → TurnPlays (report_told script_acts awaiting kind p)
report awaits.Nothing kind p h =
    went p.agenda.rows (report_counted p.agenda.rows p.agenda.play.doing p.agenda.play).0
    (report_counted p.agenda.rows p.agenda.play.doing p.agenda.play).1 p
    (counted-plays p.agenda.rows p.agenda.play.doing p.agenda.play h)
report awaits.Association kind p h = h
report awaits.Reply kind p h = h
report awaits.Conclusion kind p h = h
report awaits.Release kind p h = h

conclusion : (awaiting : Awaiting) (p : Asker Scripted) → MayGoOn p
    → TurnPlays (concluded_for script_acts awaiting p)
conclusion awaits.Conclusion p h = h
conclusion awaits.Association p h = h
conclusion awaits.Reply p h = h
conclusion awaits.Nothing p h = h
conclusion awaits.Release p h = h

service : (pdu : MmsPdu) (p : Asker Scripted) → MayGoOn p
    → TurnPlays (service_heeded script_acts pdu p)
service pdu p h = either (is_concluded_pdu (Some pdu)) (concluded_for script_acts p.awaiting p)
    (refused_at layers.Mms p) (conclusion p.awaiting p h) h

unreplied : (pdu : MmsPdu) (kind : Option ReportKind) (p : Asker Scripted) → MayGoOn p
    → TurnPlays (unreplied_heeded script_acts pdu kind p)
unreplied pdu (Some kind) p h = report p.awaiting kind p h
unreplied pdu None p h = service pdu p h

replied : (pdu : MmsPdu) (kind : Option ReplyKind) (p : Asker Scripted) → MayGoOn p
    → TurnPlays (replied_heeded script_acts pdu kind p)
replied pdu (Some kind) p h = reply (answered_number pdu) kind p h
replied pdu None p h = unreplied pdu (report_in pdu) p h

acceptance : (awaiting : Awaiting) (p : Asker Scripted) → MayGoOn p
    → TurnPlays (accept_heeded script_acts awaiting p)
acceptance awaits.Association p h =
    went p.agenda.rows (begun p.agenda.rows p.agenda.play).0
    (begun p.agenda.rows p.agenda.play).1 p (begun-plays p.agenda.rows p.agenda.play h)
acceptance awaits.Reply p h = h
acceptance awaits.Nothing p h = h
acceptance awaits.Conclusion p h = h
acceptance awaits.Release p h = h

pub input-plays : (input : StackIn) (p : Asker Scripted) → MayGoOn p
    → MayGoOn (input_heeded script_acts input p).0
input-plays (inputs.Offer title initiate) p h = h
input-plays inputs.BadOffer p h = h
input-plays (inputs.Accepted initiate) p h = acceptance p.awaiting p h
input-plays (inputs.Pdu pdu) p h = replied pdu (reply_in pdu) p h
input-plays (inputs.BadRequest invoke) p h = h
input-plays inputs.Released p h = h
input-plays inputs.Aborted p h = h
input-plays inputs.Refused p h = h

-- ---- the same, with the number of the last request

played_on : (rows : CentreRows) (p q : Asker Scripted) → IsPlayed rows p
    → q.agenda.rows ≡ p.agenda.rows → HasNumber q → MayGoOn q → IsPlayed rows q
played_on rows p q h same number on = record {
  tables = same ∙ h.tables;
  last = number;
  play = subst (λ (r : CentreRows). IsPlay r q.agenda.play) (same ∙ h.tables) on;
}

goes_on : (rows : CentreRows) (p : Asker Scripted) → IsPlayed rows p → MayGoOn p
goes_on rows p h = subst (λ (r : CentreRows). IsPlay r p.agenda.play) (sym h.tables) h.play

pub new_played : (rows : CentreRows) (script : Script) → IsScript rows script
    → IsPlayed rows (at_call (scripted rows script))
new_played rows script h = record {
  tables = refl;
  last = omega arith;
  play = script_plays rows script h;
}

pub begun_played : (rows : CentreRows) (p : Asker Scripted) → IsPlayed rows p
    → IsPlayed rows (asker_begun script_acts p).0
begun_played rows p h =
    let m = begun p.agenda.rows p.agenda.play in
    played_on rows p (asker_begun script_acts p).0 h
    (acceptance_waits awaits.Association p).rows
    (went-number (script_acts.begun p.agenda).0 (script_acts.begun p.agenda).1 p h.last)
    (went p.agenda.rows m.0 m.1 p
    (begun-plays p.agenda.rows p.agenda.play (goes_on rows p h)))

pub reply_played : (rows : CentreRows) (number : Option ℕ) (kind : ReplyKind)
    (p : Asker Scripted) → IsPlayed rows p
    → IsPlayed rows (reply_heeded script_acts number kind p).0
reply_played rows number kind p h =
    played_on rows p (reply_heeded script_acts number kind p).0 h
    (reply_waits number kind p).rows (reply-number script_acts number kind p h.last)
    (reply number kind p (goes_on rows p h))

pub report_played : (rows : CentreRows) (kind : ReportKind) (p : Asker Scripted)
    → IsPlayed rows p → IsPlayed rows (report_heeded script_acts kind p).0
report_played rows kind p h =
    played_on rows p (report_heeded script_acts kind p).0 h
    (report_waits p.awaiting kind p).rows
    (report-number script_acts p.awaiting kind p h.last)
    (report p.awaiting kind p (goes_on rows p h))

pub concluded_played : (rows : CentreRows) (p : Asker Scripted) → IsPlayed rows p
    → IsPlayed rows (concluded_for script_acts p.awaiting p).0
concluded_played rows p h =
    played_on rows p (concluded_for script_acts p.awaiting p).0 h
    (conclusion_waits p.awaiting p).rows
    (concluded-number script_acts p.awaiting p h.last)
    (conclusion p.awaiting p (goes_on rows p h))
