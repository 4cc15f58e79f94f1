-- The close of a connection that was left, by a call of a seat.
use Rattle.std.proofs.Common.{◌≡◌, ℕ, Bool, true, false, List, ◌++◌, is_some, None, Ok, Err}
use Rattle.std.proofs.Common.{refl, sym, ap, subst, ◌∙◌, Option}
use Rattle.std.specs.Prelude.{if◌then◌else◌}
use Rattle.stack_assoc.specs.declared.end_state.EndState.{EndState}
use Rattle.bilateral.specs.Rows.{CentreRows}
use Rattle.sbo_device.specs.declared.key.Key.{Key}
use Rattle.tase_views.specs.Setup.{Setup}
use Rattle.tase_views.specs.History.{Past, association_in}
use Rattle.tase_views.specs.declared.event.EventKind.{EventKind}
use Rattle.tase_views.specs.declared.event.EventKind.TheVariants as events
use Rattle.tase_views.specs.declared.fault.StepFault.{StepFault}
use Rattle.tase_views.specs.declared.reply.Answer.{Answer}
use Rattle.tase_conn.specs.Map.Inputs.{Item}
use Rattle.tase_conn.specs.Map.Sent.{with_event}
use Rattle.tase_conn.specs.declared.stage.ConnEnd.{ConnEnd}
use Rattle.tase_conn.specs.declared.stage.Progress.{Progress}
use Rattle.tase_conn.specs.Talking.{Talking, is_leaving}
use Rattle.tase_conn.specs.Wanting.{Wants, WantsSo}
use Rattle.tase_conn.specs.Answering.{IsAnswerFor}
use Rattle.conn_service.specs.Courses.Cutting.{HasLeft}
use Rattle.conn_service.proofs.OfCourses.Seats.{others_seat}
use Rattle.conn_service.specs.Served.{with_closed}
use Rattle.conn_service.specs.Attending.{IsParting, IsAskingClose, ClosesLeft}
use Rattle.conn_service.proofs.Closed.{seat_left}
use Rattle.conn_service.proofs.Going.{uncut_on, close_told}
use Rattle.conn_service.proofs.Told.{close_right}
use Rattle.node_server.specs.Seats.Serving.{IsShut, ClosesOverAll}
use Rattle.node_server.proofs.OfSeats.Behind.{CameBehind}

-- ---- where none is open

uncut_over : (rows : CentreRows) (past : Past) (whole : Bool) (end : ConnEnd) (standing : EndState)
    (who : ℕ) (items : List Item) (said : List ℕ) (old new : Talking)
    → (h : HasLeft whole end standing rows past who items said None old)
    → Wants rows items h.told h.turns None old new
    → ClosesLeft whole end standing rows past who items said old (with_closed who past) new
uncut_over rows past whole end standing who items said old new h wants =
    let c = uncut_on whole end standing rows past past who items said old new refl h wants in
    subst (λ (p : Past). ClosesLeft whole end standing rows past who items said old p new)
    c.after_is c

pub unasked_closes : (rows : CentreRows) (who : ℕ) (old new : Talking) → WantsSo None old new
    → ClosesOverAll rows who old new
unasked_closes rows who old new wants = λ past whole end standing items said h.
    uncut_over rows past whole end standing who items said old new h
    (wants rows items h.told h.turns h.stands)

pub unasked_none : (rows : CentreRows) (past : Past) (who : ℕ) (old new : Talking)
    → WantsSo None old new → IsParting rows past who old
    → is_some (association_in past who) ≡ false
unasked_none rows past who old new wants p =
    let h = p.5 in
    let c = uncut_on p.2 p.3 p.4 rows past past who p.0 p.1 old new refl h
    (wants rows p.0 h.told h.turns h.stands) in
    seat_left p.2 p.3 p.4 rows past who p.0 _ None new c.left
    ∙ ap (λ (x : Progress). is_leaving x) c.ended

-- ---- where its close was asked

pub asked_answer : (setup : Setup) (past after : Past) (who : ℕ) (event : EventKind)
    (answer : Answer) (v : Talking) → IsAskingClose setup.centre past who event v
    → CameBehind setup who past event (Ok answer) after → IsAnswerFor v.progress (Ok answer)
asked_answer setup past after who event answer v asks b =
    let a = asks.6 in
    close_told setup (b.others ++ past) who event answer asks.1 v a.event_is
    (ap (λ (k : Option Key). is_some k) (others_seat who b.others past b.apart) ∙ a.seat) a.progress
    b.right

pub asked_shut : (setup : Setup) (past after : Past) (who : ℕ) (event : EventKind)
    (answer : Answer) → event ≡ events.Close → is_some (association_in past who) ≡ true
    → CameBehind setup who past event (Ok answer) after → IsShut who past after
asked_shut setup past after who event answer closes seat b = record {
  others = b.others;
  apart = b.apart;
  after_is = b.after_is ∙ ap (λ (e : EventKind). with_event who e (b.others ++ past)) closes
      ∙ ap (λ (x : Bool). if x then with_event who events.Close (b.others ++ past) else past)
      (sym seat);
}

-- it is never refused
pub asked_unrefused : (setup : Setup) (past after : Past) (who : ℕ) (event : EventKind)
    (fault : StepFault) (v : Talking) → IsAskingClose setup.centre past who event v
    → CameBehind setup who past event (Err fault) after → ⊥
asked_unrefused setup past after who event fault v asks b =
    let a = asks.6 in
    close_right setup (b.others ++ past) who event fault a.event_is
    (ap (λ (k : Option Key). is_some k) (others_seat who b.others past b.apart) ∙ a.seat) b.right
