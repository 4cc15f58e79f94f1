-- How each function that acts on what was read steps on.
use Rattle.std.proofs.Common.{◌≡◌, ℕ, ℤ, ◌+◌, ◌*◌, ◌<◌, true, false, List, [], ◌∷◌, ◌++◌}
use Rattle.std.proofs.Common.{Option, Some, None, Result, Ok, Err, IfOk, OnOk, arith, ◌≤◌, length}
use Rattle.std.proofs.Common.{refl, sym, ap, subst, ◌∙◌, inl, inr, append_assoc}
use Rattle.std.specs.Prelude.{◌⊎◌, ◌&&◌, not, if◌then◌else◌}
use Rattle.std.specs.List.{list_any}
use Rattle.std.proofs.lemmas.List.{append-nil}
use Rattle.bilateral.specs.Rows.{CentreRows, place_of_title}
use Rattle.mms_services.specs.Lawful.{IsLawfulRequest}
use Rattle.mms_services.specs.Negotiations.{granted, IsTooLittle}
use Rattle.mms_services.specs.declared.initiate.Initiate.{Initiate}
use Rattle.mms_services.specs.declared.pdu.MmsPdu.{MmsPdu}
use Rattle.mms_services.specs.declared.pdu.MmsPdu.TheVariants as pdus
use Rattle.mms_services.specs.declared.request.Request.{Request}
use Rattle.stack_assoc.specs.declared.messages.expecting.Side.{Side}
use Rattle.stack_assoc.specs.declared.messages.expecting.Side.TheVariants as sides
use Rattle.stack_assoc.specs.declared.messages.fault.StackFault.{StackFault}
use Rattle.stack_assoc.specs.declared.input.StackIn.TheVariants as inputs
use Rattle.stack_assoc.specs.declared.end_state.EndState.{EndState}
use Rattle.stack_assoc.specs.declared.end_state.EndState.TheVariants as standings
use Rattle.stack_assoc.specs.Arrivals.{Arrival}
use Rattle.stack_assoc.specs.Courses.{is_accepted, is_offered, finishing}
use Rattle.stack_assoc.specs.Saying.{may_leave}
use Rattle.stack_assoc.specs.Expectations.{setup_after}
use Rattle.tase_views.specs.declared.event.EventKind.{EventKind}
use Rattle.tase_views.specs.declared.event.EventKind.TheVariants as events
use Rattle.tase_conn.specs.Map.Asked.{call_of_request, invalid}
use Rattle.tase_conn.specs.Map.Inputs.{Item}
use Rattle.tase_conn.specs.Map.Turns.{Turn, offers, offers_badly, asks, releases, aborts, breaks, ends}
use Rattle.tase_conn.specs.Map.Turns.{concludes, pauses, turn_of_pdu}
use Rattle.tase_conn.specs.Map.Asks.{begins, finishes, is_open_behind}
use Rattle.tase_conn.specs.Map.Out.{abort_wire, release_wire}
use Rattle.tase_conn.specs.declared.stage.ConnEnd.TheVariants as conn_ends
use Rattle.tase_conn.specs.declared.stage.ConnEnd.{ConnEnd}
use Rattle.tase_conn.specs.declared.stage.Stage.{Stage}
use Rattle.tase_conn.specs.declared.stage.Stage.TheVariants as stages
use Rattle.tase_conn.specs.declared.stage.Coming.{Coming}
use Rattle.tase_conn.specs.declared.stage.Coming.TheVariants as comings
use Rattle.tase_conn.specs.declared.stage.Cause.{Cause}
use Rattle.tase_conn.specs.declared.stage.Cause.TheVariants as causes
use Rattle.tase_conn.specs.declared.stage.PendingEvent.{PendingEvent}
use Rattle.tase_conn.specs.declared.stage.PendingEvent.TheVariants as askeds
use Rattle.tase_conn.specs.declared.stage.Progress.{Progress}
use Rattle.tase_conn.specs.declared.stage.Progress.TheVariants as progresses
use Rattle.tase_conn.specs.declared.stage.Step.{Step}
use Rattle.tase_conn.specs.declared.stage.Step.TheVariants as steps
use Rattle.tase_conn.specs.Talking.{Talking, pending_of}
use Rattle.tase_conn.specs.Places.{ConnStandsAt, IsPlaced, Runs, RoomBy, HasAbortRoom, IsAgreed, InputIsDue}
use Rattle.tase_conn.specs.Places.{PduIsDue, IsDue, has_begun, has_finished, standing_at, turn_for}
use Rattle.tase_conn.specs.Places.{Position, position_by, Reach, reach_of, reach_at, coming_by}
use Rattle.tase_conn.specs.Answering.{parting_octets}
use Rattle.tase_conn.specs.Leaving.{AddsAnswer, Parts, EndsFor, MayAnswer, MayEnd, finished}
use Rattle.tase_conn.specs.Wanting.{IsIdle, refusal_said}
use Rattle.tase_conn.specs.Acting.{StepsBy, StaysSo, GoesDown, holding, steps_left}
use Rattle.tase_conn.specs.Acting.{weight_behind, weight_held}
use Rattle.tase_conn.proofs.Acted.{running_idle, asking, asks_event, Asking, Ended, Ending}
use Rattle.tase_conn.proofs.Acted.{ends_step}
use Rattle.tase_conn.proofs.Acted.{goes_step}
use Rattle.tase_conn.proofs.ToldAll.{all_open, all_some, all_broken, all_ended}
use Rattle.tase_conn.proofs.Cases.{asks_open, asks_request, asks_badly, asks_take, asks_close}
use Rattle.tase_conn.proofs.Cases.{setup_known, declines_offer, declines_badly, ends_released}
use Rattle.tase_conn.proofs.Cases.{ends_aborted, ends_linked, ends_broken, broken_is, passes_pdu}
use Rattle.stack_assoc.proofs.Enough.{is_enough}
use Rattle.tase_conn.proofs.Cases.{passes_pause, IsShut, shut_open}

-- ---- results

pub if_ok : (X E Q : Type 0) (P R : X → Type 0) (result : Result X E)
    → ((x : X) → P x → Q → R x) → IfOk result P → OnOk result Q → IfOk result R
if_ok X E Q P R (Ok x) f p q = f x p q
if_ok X E Q P R (Err e) f p q = tt

-- ---- an event is asked

-- of a function that asks for it
pub asks_so : (rows : CentreRows) (items : List Item) (told : List Arrival) (turns : List Turn)
    (turn : Turn) (event : EventKind) (stage : Stage) (asked : PendingEvent) (coming : Coming)
    (v new : Talking) (step : Step) → v.stage ≡ stage → v.held ≡ None → IsIdle v.progress
    → step ≡ steps.Asks event → new ≡ asking asked v
    → (Runs rows items told turns askeds.Nothing (holding coming v)
    → Asking rows told turns turn event stage asked coming)
    → ConnStandsAt rows items told turns (holding coming v)
    → StepsBy rows items told turns step (holding coming v) new
asks_so rows items told turns turn event stage asked coming v new step at empty idle is e makes s =
    subst (λ (x : Step). StepsBy rows items told turns x (holding coming v) new) (sym is)
    (subst (λ (x : Talking). StepsBy rows items told turns (steps.Asks event) (holding coming v) x)
    (sym e)
    (asks_event rows items told turns turn event stage asked coming v at empty idle makes s))

-- whether the association is open, and what was agreed on, at a stage
reached_at : (rows : CentreRows) (items : List Item) (told : List Arrival) (turns : List Turn)
    (v : Talking) (stage : Stage) → v.stage ≡ stage → Runs rows items told turns askeds.Nothing v
    → reach_of rows turns ≡ reach_at stage
reached_at rows items told turns v stage at r = r.reached ∙ ap (λ (x : Stage). reach_at x) at

is_open_at : (rows : CentreRows) (items : List Item) (told : List Arrival) (turns : List Turn)
    (v : Talking) (stage : Stage) → v.stage ≡ stage → Runs rows items told turns askeds.Nothing v
    → is_open_behind rows turns ≡ (has_begun stage && not (has_finished stage))
is_open_at rows items told turns v stage at r = ap (λ (x : Reach). x.begun && not x.finished)
    (reached_at rows items told turns v stage at r)

agreed_at : (rows : CentreRows) (items : List Item) (told : List Arrival) (turns : List Turn)
    (v : Talking) (stage : Stage) → v.stage ≡ stage → Runs rows items told turns askeds.Nothing v
    → IsAgreed told stage askeds.Nothing
agreed_at rows items told turns v stage at r =
    subst (λ (x : Stage). IsAgreed told x askeds.Nothing) at r.agreed

due_at : (rows : CentreRows) (items : List Item) (told : List Arrival) (turns : List Turn)
    (coming : Coming) (v : Talking) (stage : Stage) → v.stage ≡ stage
    → Runs rows items told turns askeds.Nothing (holding coming v) → IsDue told stage coming
due_at rows items told turns coming v stage at r =
    subst (λ (x : Stage). IsDue told x coming) at r.due

pub opens_so : (rows : CentreRows) (items : List Item) (told : List Arrival) (turns : List Turn)
    (title : Option (List ℕ)) (initiate offered : Initiate) (peer : ℕ) (v new : Talking)
    (step : Step) → v.held ≡ None → IsIdle v.progress → step ≡ steps.Asks (events.Open peer)
    → new ≡ asking (askeds.Opening peer offered) v
    → place_of_title v.rows title ≡ Some peer → offered ≡ granted initiate
    → ConnStandsAt rows items told turns (holding (comings.Input (inputs.Offer title initiate)) v)
    → StepsBy rows items told turns step (holding (comings.Input (inputs.Offer title initiate)) v) new
opens_so rows items told turns title initiate offered peer v new step empty idle is e place g s =
    asks_so rows items told turns (offers title) (events.Open peer) v.stage
    (askeds.Opening peer offered) (comings.Input (inputs.Offer title initiate)) v new step refl
    empty idle is e
    (λ r. asks_open rows told turns title initiate offered peer v.stage r.due
    (subst (λ (x : CentreRows). place_of_title x title ≡ Some peer) s.rows_are place) g (ap (λ (x : Reach). x.ending) r.reached)) s

pdu_due : (told : List Arrival) (stage : Stage) (pdu : MmsPdu)
    → InputIsDue told stage (inputs.Pdu pdu) → PduIsDue stage pdu
pdu_due told stages.Early pdu d = d
pdu_due told (stages.Open peer detail) pdu d = d
pdu_due told (stages.Closed peer) pdu d = d

pub requests_so : (rows : CentreRows) (items : List Item) (told : List Arrival) (turns : List Turn)
    (invoke : ℕ) (request : Request) (v new : Talking) (step : Step) → v.held ≡ None
    → IsIdle v.progress → step ≡ steps.Asks (events.Request (call_of_request request))
    → new ≡ asking (askeds.Requesting invoke) v
    → ConnStandsAt rows items told turns
    (holding (comings.Input (inputs.Pdu (pdus.Request invoke request))) v)
    → StepsBy rows items told turns step
    (holding (comings.Input (inputs.Pdu (pdus.Request invoke request))) v) new
requests_so rows items told turns invoke request v new step empty idle is e s =
    asks_so rows items told turns (asks invoke (call_of_request request)) (events.Request (call_of_request request))
    v.stage (askeds.Requesting invoke) (comings.Input (inputs.Pdu (pdus.Request invoke request))) v
    new step refl empty idle is e
    (λ r. asks_request rows told turns invoke request v.stage
    (pdu_due told v.stage (pdus.Request invoke request) r.due)
    (agreed_at rows items told turns
    (holding (comings.Input (inputs.Pdu (pdus.Request invoke request))) v) v.stage refl r)
    (ap (λ (x : Reach). x.ending) r.reached)) s

pub requests_badly : (rows : CentreRows) (items : List Item) (told : List Arrival)
    (turns : List Turn) (invoke : ℕ) (v new : Talking) (step : Step) → v.held ≡ None
    → IsIdle v.progress → step ≡ steps.Asks (events.Request invalid)
    → new ≡ asking (askeds.Requesting invoke) v
    → ConnStandsAt rows items told turns (holding (comings.Input (inputs.BadRequest invoke)) v)
    → StepsBy rows items told turns step (holding (comings.Input (inputs.BadRequest invoke)) v) new
requests_badly rows items told turns invoke v new step empty idle is e s =
    asks_so rows items told turns (asks invoke invalid) (events.Request invalid) v.stage
    (askeds.Requesting invoke) (comings.Input (inputs.BadRequest invoke)) v new step refl empty idle
    is e
    (λ r. asks_badly rows told turns invoke v.stage r.due
    (agreed_at rows items told turns (holding (comings.Input (inputs.BadRequest invoke)) v) v.stage
    refl r) (ap (λ (x : Reach). x.ending) r.reached)) s

pub takes_so : (rows : CentreRows) (items : List Item) (told : List Arrival) (turns : List Turn)
    (peer : ℕ) (detail : ℤ) (v new : Talking) (step : Step) → v.stage ≡ stages.Open peer detail
    → v.held ≡ None → IsIdle v.progress → step ≡ steps.Asks events.Take
    → new ≡ asking askeds.Taking v
    → ConnStandsAt rows items told turns (holding comings.Pause v)
    → StepsBy rows items told turns step (holding comings.Pause v) new
takes_so rows items told turns peer detail v new step at empty idle is e s =
    asks_so rows items told turns pauses events.Take (stages.Open peer detail) askeds.Taking
    comings.Pause v new step at empty idle is e
    (λ r. asks_take rows told turns peer detail
    (agreed_at rows items told turns (holding comings.Pause v) (stages.Open peer detail) at r)
    (is_open_at rows items told turns (holding comings.Pause v) (stages.Open peer detail) at r)
    (ap (λ (x : Reach). x.ending) r.reached)) s

pub closes_so : (rows : CentreRows) (items : List Item) (told : List Arrival) (turns : List Turn)
    (cause : Cause) (peer : ℕ) (detail : ℤ) (v new : Talking) (step : Step)
    → v.stage ≡ stages.Open peer detail → v.held ≡ None → IsIdle v.progress
    → step ≡ steps.Asks events.Close → new ≡ asking (askeds.Closing cause) v
    → ConnStandsAt rows items told turns (holding (coming_by cause) v)
    → StepsBy rows items told turns step (holding (coming_by cause) v) new
closes_so rows items told turns cause peer detail v new step at empty idle is e s =
    let here = holding (coming_by cause) v in
    asks_so rows items told turns (turn_for cause) events.Close (stages.Open peer detail)
    (askeds.Closing cause) (coming_by cause) v new step at empty idle is e
    (λ r. asks_close rows told turns cause peer detail
    (agreed_at rows items told turns here (stages.Open peer detail) at r)
    (is_open_at rows items told turns here (stages.Open peer detail) at r) (ap (λ (x : Reach). x.ending) r.reached)
    (ap (λ (x : Reach). x.finished)
    (reached_at rows items told turns here (stages.Open peer detail) at r))) s

-- ---- it ends

ended_so : (rows : CentreRows) (items : List Item) (told : List Arrival) (turns : List Turn)
    (turn : Turn) (end : ConnEnd) (octets : List ℕ) (coming : Coming) (v new : Talking)
    (step : Step) → step ≡ steps.Ends → IsIdle v.progress → Ended end octets v new
    → (Runs rows items told turns askeds.Nothing (holding coming v)
    → Ending rows items told turns turn end octets coming)
    → ConnStandsAt rows items told turns (holding coming v)
    → StepsBy rows items told turns step (holding coming v) new
ended_so rows items told turns turn end octets coming v new step is idle n makes s =
    subst (λ (x : Step). StepsBy rows items told turns x (holding coming v) new) (sym is)
    (ends_step rows items told turns turn end octets coming v new idle n makes s)

-- its farewell is empty yet
unsaid : (rows : CentreRows) (items : List Item) (told : List Arrival) (turns : List Turn)
    (coming : Coming) (v : Talking) → IsIdle v.progress
    → ConnStandsAt rows items told turns (holding coming v) → HasAbortRoom v
unsaid rows items told turns coming v idle s =
    let room : RoomBy (progresses.Running askeds.Nothing) (holding coming v) =
    subst (λ (p : Progress). RoomBy p (holding coming v)) idle s.room in
    record { room = room.room; unsaid = room.unsaid }

plain : (end : ConnEnd) (v new : Talking) → new ≡ finished (progresses.Ended end) v
    → Ended end [] v new
plain end v new e = subst (λ (x : Talking). Ended end [] v x) (sym e) (record {
  rows = refl;
  stage = refl;
  progress = refl;
  behind = refl;
  held = refl;
  said = sym (append-nil (pending_of v));
})

swapped : (a b c : List ℕ) → c ≡ [] → (a ++ b) ++ c ≡ (a ++ c) ++ b
swapped a b c e =
    ap (λ (x : List ℕ). (a ++ b) ++ x) e ∙ append-nil (a ++ b)
    ∙ ap (λ (x : List ℕ). x ++ b) (sym (append-nil a) ∙ ap (λ (x : List ℕ). a ++ x) (sym e))

added : (end : ConnEnd) (octets : List ℕ) (v new : Talking) → v.farewell.items ≡ []
    → AddsAnswer octets (finished (progresses.Ended end) v) new → Ended end octets v new
added end octets v new none a = record {
  rows = ap (λ (x : Talking). x.rows) a.is;
  stage = ap (λ (x : Talking). x.stage) a.is;
  progress = ap (λ (x : Talking). x.progress) a.is;
  behind = ap (λ (x : Talking). x.behind) a.is;
  held = ap (λ (x : Talking). x.held) a.is;
  said = ap (λ (x : Talking). new.out ++ x.farewell.items) a.is
      ∙ ap (λ (x : List ℕ). x ++ v.farewell.items) a.said_is
      ∙ swapped v.out octets v.farewell.items none;
}

parting : (end : ConnEnd) (octets : List ℕ) (v new : Talking)
    → Parts (progresses.Ended end) octets v new → Ended end octets v new
parting end octets v new p = record {
  rows = ap (λ (x : Talking). x.rows) p.is;
  stage = ap (λ (x : Talking). x.stage) p.is;
  progress = ap (λ (x : Talking). x.progress) p.is;
  behind = ap (λ (x : Talking). x.behind) p.is;
  held = ap (λ (x : Talking). x.held) p.is;
  said = ap (λ (x : Talking). x.out ++ new.farewell.items) p.is
      ∙ ap (λ (x : List ℕ). v.out ++ x) p.said_is
      ∙ sym (append_assoc v.out v.farewell.items octets);
}

pub declines_so : (rows : CentreRows) (items : List Item) (told : List Arrival) (turns : List Turn)
    (title : Option (List ℕ)) (initiate : Initiate) (v new : Talking) (step : Step)
    → step ≡ steps.Ends → IsIdle v.progress → place_of_title v.rows title ≡ None
    → AddsAnswer (refusal_said v.course.setup) (finished (progresses.Ended conn_ends.Declined) v) new
    → ConnStandsAt rows items told turns (holding (comings.Input (inputs.Offer title initiate)) v)
    → StepsBy rows items told turns step (holding (comings.Input (inputs.Offer title initiate)) v) new
declines_so rows items told turns title initiate v new step is idle place a s =
    let coming = comings.Input (inputs.Offer title initiate) in
    let room = unsaid rows items told turns coming v idle s in
    ended_so rows items told turns (offers title) conn_ends.Declined (refusal_said v.course.setup)
    coming v new step is idle
    (added conn_ends.Declined (refusal_said v.course.setup) v new room.unsaid a)
    (λ r. declines_offer rows items told turns title initiate v.course.setup
    (subst (λ (x : CentreRows). place_of_title x title ≡ None) s.rows_are place)
    (setup_known rows items told turns (holding coming v) r refl)
    (all_open rows items told turns (holding coming v) conn_ends.Declined r refl)) s

pub declines_bad : (rows : CentreRows) (items : List Item) (told : List Arrival) (turns : List Turn)
    (v new : Talking) (step : Step) → step ≡ steps.Ends → IsIdle v.progress
    → AddsAnswer (refusal_said v.course.setup) (finished (progresses.Ended conn_ends.Declined) v) new
    → ConnStandsAt rows items told turns (holding (comings.Input inputs.BadOffer) v)
    → StepsBy rows items told turns step (holding (comings.Input inputs.BadOffer) v) new
declines_bad rows items told turns v new step is idle a s =
    let coming = comings.Input inputs.BadOffer in
    let room = unsaid rows items told turns coming v idle s in
    ended_so rows items told turns offers_badly conn_ends.Declined (refusal_said v.course.setup)
    coming v new step is idle
    (added conn_ends.Declined (refusal_said v.course.setup) v new room.unsaid a)
    (λ r. declines_badly rows items told turns v.course.setup
    (setup_known rows items told turns (holding coming v) r refl)
    (all_open rows items told turns (holding coming v) conn_ends.Declined r refl)) s

shut_at : (rows : CentreRows) (items : List Item) (told : List Arrival) (turns : List Turn)
    (v : Talking) (stage : Stage) → v.stage ≡ stage → IsShut stage
    → Runs rows items told turns askeds.Nothing v → is_open_behind rows turns ≡ false
shut_at rows items told turns v stage at shut r =
    is_open_at rows items told turns v stage at r ∙ shut_open stage shut

-- what is said where a rule was broken
said_broken : (rows : CentreRows) (items : List Item) (told : List Arrival) (turns : List Turn)
    (fault : StackFault) (v : Talking) (stage : Stage) → v.stage ≡ stage → IsShut stage
    → Runs rows items told turns askeds.Nothing (holding (comings.Fault fault) v)
    → (if has_begun stage then abort_wire v.course.setup else [])
    ≡ parting_octets v.course (conn_ends.Refused fault)
said_broken rows items told turns fault v stage at shut r = by stage shut
    ∙ ap (λ (s : EndState). if is_accepted s then abort_wire v.course.setup else [])
    (ap (λ (x : Stage). standing_at x) (sym at) ∙ ap (λ (p : Position). p.standing) (sym r.at))
  where
    by : (stage : Stage) → IsShut stage → (if has_begun stage then abort_wire v.course.setup else [])
        ≡ (if is_accepted (standing_at stage) then abort_wire v.course.setup else [])
    by stages.Early s = refl
    by (stages.Open peer detail) s = absurd s
    by (stages.Closed peer) s = refl

setup_or : (rows : CentreRows) (items : List Item) (told : List Arrival) (turns : List Turn)
    (fault : StackFault) (v : Talking) (stage : Stage) → v.stage ≡ stage → IsShut stage
    → Runs rows items told turns askeds.Nothing (holding (comings.Fault fault) v)
    → (v.course.setup ≡ setup_after told) ⊎ (has_begun stage ≡ false)
setup_or rows items told turns fault v stages.Early at shut r = inr refl
setup_or rows items told turns fault v (stages.Open peer detail) at shut r = absurd shut
setup_or rows items told turns fault v (stages.Closed peer) at shut r =
    inl (setup_known rows items told turns (holding (comings.Fault fault) v) r
    (ap (λ (x : Stage). has_begun x) at))

released_setup : (rows : CentreRows) (items : List Item) (told : List Arrival) (turns : List Turn)
    (v : Talking) (stage : Stage) → v.stage ≡ stage → IsShut stage
    → Runs rows items told turns askeds.Nothing (holding (coming_by causes.Released) v)
    → (v.course.setup ≡ setup_after told) × (list_any (begins rows) turns ≡ true)
    × (has_begun v.stage ≡ true)
released_setup rows items told turns v stages.Early at shut r =
    absurd (due_at rows items told turns (coming_by causes.Released) v stages.Early at r)
released_setup rows items told turns v (stages.Open peer detail) at shut r = absurd shut
released_setup rows items told turns v (stages.Closed peer) at shut r =
    let begun = ap (λ (x : Stage). has_begun x) at in (
      setup_known rows items told turns (holding (coming_by causes.Released) v) r begun,
      ap (λ (x : Reach). x.begun) r.reached ∙ begun,
      begun,
    )

-- where no association is open none is concluded
not_concluded : (rows : CentreRows) (items : List Item) (told : List Arrival) (turns : List Turn)
    (v : Talking) (stage : Stage) → v.stage ≡ stage → IsShut stage
    → Runs rows items told turns askeds.Nothing (holding (coming_by causes.Concluded) v) → ⊥
not_concluded rows items told turns v stages.Early at shut r =
    some_none (due_at rows items told turns (coming_by causes.Concluded) v stages.Early at r)
  where
    some_none : Some concludes ≡ None → ⊥
    some_none e = absurd cc
not_concluded rows items told turns v (stages.Open peer detail) at shut r = shut
not_concluded rows items told turns v (stages.Closed peer) at shut r =
    some_none
    (due_at rows items told turns (coming_by causes.Concluded) v (stages.Closed peer) at r)
  where
    some_none : Some concludes ≡ None → ⊥
    some_none e = absurd cc

some_aborted : (told : List Arrival) (stage : Stage)
    → IsDue told stage (coming_by causes.Aborted) → 1 ≤ length told
some_aborted told stages.Early d = d
some_aborted told (stages.Open peer detail) d = d
some_aborted told (stages.Closed peer) d = d

pub ends_so : (rows : CentreRows) (items : List Item) (told : List Arrival) (turns : List Turn)
    (cause : Cause) (stage : Stage) (v new : Talking) (step : Step) → v.stage ≡ stage
    → IsShut stage → step ≡ steps.Ends → IsIdle v.progress → EndsFor cause v new
    → ConnStandsAt rows items told turns (holding (coming_by cause) v)
    → StepsBy rows items told turns step (holding (coming_by cause) v) new
ends_so rows items told turns causes.Concluded stage v new step at shut is idle n s =
    absurd (not_concluded rows items told turns v stage at shut
    (running_idle rows items told turns (holding (coming_by causes.Concluded) v) idle s))
ends_so rows items told turns causes.Released stage v new step at shut is idle n s =
    let room = unsaid rows items told turns (coming_by causes.Released) v idle s in
    ended_so rows items told turns releases conn_ends.Finished (release_wire v.course.setup)
    (coming_by causes.Released) v new step is idle
    (added conn_ends.Finished (release_wire v.course.setup) v new room.unsaid n)
    (λ r. let k = released_setup rows items told turns v stage at shut r in
    ends_released rows items told turns v.course.setup k.0
    (shut_at rows items told turns (holding (coming_by causes.Released) v) stage at shut r) k.1
    (all_open rows items told turns (holding (coming_by causes.Released) v) conn_ends.Finished r
    k.2)) s
ends_so rows items told turns causes.Aborted stage v new step at shut is idle n s =
    ended_so rows items told turns aborts conn_ends.PeerEnd [] (coming_by causes.Aborted) v new step
    is idle (plain conn_ends.PeerEnd v new n)
    (λ r. ends_aborted rows items told turns
    (shut_at rows items told turns (holding (coming_by causes.Aborted) v) stage at shut r)
    (all_some items told v.course conn_ends.PeerEnd r.stands (some_aborted told v.stage r.due)
    (λ e. absurd cc))) s
ends_so rows items told turns causes.LinkEnd stage v new step at shut is idle n s =
    ended_so rows items told turns ends conn_ends.PeerEnd [] (coming_by causes.LinkEnd) v new step
    is idle (plain conn_ends.PeerEnd v new n)
    (λ r. ends_linked rows items told turns
    (shut_at rows items told turns (holding (coming_by causes.LinkEnd) v) stage at shut r)
    (all_ended rows items told turns (holding (coming_by causes.LinkEnd) v) conn_ends.PeerEnd r refl
    r.passed (λ e. absurd cc))) s
ends_so rows items told turns (causes.Broken fault) stage v new step at shut is idle n s =
    let coming = coming_by (causes.Broken fault) in
    let end = conn_ends.Refused fault in
    ended_so rows items told turns breaks end (parting_octets v.course end) coming v new step is idle
    (parting end (parting_octets v.course end) v new n)
    (λ r. subst (λ (os : List ℕ). Ending rows items told turns breaks end os coming)
    (said_broken rows items told turns fault v stage at shut r)
    (ends_broken rows items told turns fault v.course.setup (has_begun stage)
    (setup_or rows items told turns fault v stage at shut r)
    (shut_at rows items told turns (holding coming v) stage at shut r)
    (ap (λ (x : Reach). x.begun) (reached_at rows items told turns (holding coming v) stage at r))
    (broken_is items told fault (holding coming v) r.stands (ap (λ (p : Position). p.fault) r.at))
    (all_broken items told fault v.course end r.stands
    (ap (λ (p : Position). p.fault) r.at) (λ e. absurd cc)))) s

-- ---- it goes on

pub other_pdu : (pdu : MmsPdu)
    → ((invoke : ℕ) (request : Request) → pdu ≡ pdus.Request invoke request → ⊥)
    → (pdu ≡ pdus.Conclude → ⊥) → turn_of_pdu pdu ≡ None
other_pdu (pdus.Request invoke request) n m = absurd (n invoke request refl)
other_pdu (pdus.Response invoke response) n m = refl
other_pdu (pdus.Error e) n m = refl
other_pdu (pdus.Report r) n m = refl
other_pdu (pdus.Reject r) n m = refl
other_pdu (pdus.Initiate offer) n m = refl
other_pdu (pdus.Initiated offer) n m = refl
other_pdu pdus.InitiateError n m = refl
other_pdu pdus.Conclude n m = absurd (m refl)
other_pdu pdus.Concluded n m = refl

pub passes_so : (rows : CentreRows) (items : List Item) (told : List Arrival) (turns : List Turn)
    (pdu : MmsPdu) (v : Talking) → v.held ≡ None → IsIdle v.progress → turn_of_pdu pdu ≡ None
    → ConnStandsAt rows items told turns (holding (comings.Input (inputs.Pdu pdu)) v)
    → StepsBy rows items told turns steps.GoesOn (holding (comings.Input (inputs.Pdu pdu)) v) v
passes_so rows items told turns pdu v empty idle none s =
    goes_step rows items told turns [] (comings.Input (inputs.Pdu pdu)) v empty idle
    (λ r. passes_pdu rows turns v.stage pdu none) s

pub pauses_so : (rows : CentreRows) (items : List Item) (told : List Arrival) (turns : List Turn)
    (stage : Stage) (v : Talking) → v.stage ≡ stage → IsShut stage → v.held ≡ None
    → IsIdle v.progress → ConnStandsAt rows items told turns (holding comings.Pause v)
    → StepsBy rows items told turns steps.GoesOn (holding comings.Pause v) v
pauses_so rows items told turns stage v at shut empty idle s =
    goes_step rows items told turns (pauses ∷ []) comings.Pause v empty idle
    (λ r. passes_pause rows turns v.stage
    (shut_at rows items told turns (holding comings.Pause v) stage at shut r)) s

-- ---- what calls require

-- what isn't due isn't read
pub undue : (coming : Coming) (v : Talking) → IsIdle v.progress
    → ((told : List Arrival) → IsDue told v.stage coming → ⊥) → IsPlaced (holding coming v) → ⊥
undue coming v idle none p =
    none p.told (running_idle p.rows p.items p.told p.turns (holding coming v) idle p.stands).due

pub offered_so : (coming : Coming) (v : Talking) → IsIdle v.progress
    → is_offered (position_by v.stage askeds.Nothing (Some coming)).standing ≡ true
    → IsPlaced (holding coming v) → is_offered v.course.standing ≡ true
offered_so coming v idle is p =
    let r = running_idle p.rows p.items p.told p.turns (holding coming v) idle p.stands in
    ap (λ (x : Position). is_offered x.standing) r.at ∙ is

-- an offer of which nothing can be granted isn't handed out as one
pub granted_some : (title : Option (List ℕ)) (initiate : Initiate) (v : Talking)
    → IsIdle v.progress → IsTooLittle initiate
    → IsPlaced (holding (comings.Input (inputs.Offer title initiate)) v) → ⊥
granted_some title initiate v idle little p =
    let r = running_idle p.rows p.items p.told p.turns
    (holding (comings.Input (inputs.Offer title initiate)) v) idle p.stands in
    enough v.stage p.told r.due
  where
    enough : (stage : Stage) (told : List Arrival)
        → IsDue told stage (comings.Input (inputs.Offer title initiate)) → ⊥
    enough stages.Early told d = is_enough initiate d.enough little
    enough (stages.Open peer detail) told d = d
    enough (stages.Closed peer) told d = d

pub request_lawful : (invoke : ℕ) (request : Request) (v : Talking) → IsIdle v.progress
    → IsPlaced (holding (comings.Input (inputs.Pdu (pdus.Request invoke request))) v)
    → IsLawfulRequest request
request_lawful invoke request v idle p =
    let r = running_idle p.rows p.items p.told p.turns
    (holding (comings.Input (inputs.Pdu (pdus.Request invoke request))) v) idle p.stands in
    lawful v.stage p.told r.due
  where
    some_none : Some (asks invoke (call_of_request request)) ≡ None → ⊥
    some_none e = absurd cc

    lawful : (stage : Stage) (told : List Arrival)
        → IsDue told stage (comings.Input (inputs.Pdu (pdus.Request invoke request)))
        → IsLawfulRequest request
    lawful stages.Early told d = absurd (some_none d)
    lawful (stages.Open peer detail) told d = d
    lawful (stages.Closed peer) told d = absurd (some_none d)

-- ---- less is left

pub goes_down : (step : Step) (coming : Coming) (v new : Talking) → v.held ≡ None
    → StaysSo step v new → GoesDown step (steps_left (holding coming v)) (steps_left new)
goes_down (steps.Asks event) coming v new empty so = tt
goes_down steps.Ends coming v new empty so = tt
goes_down steps.GoesOn coming v new empty so =
    let here = weight_behind v.behind v.course in
    let less : 2 * here + weight_held None < 2 * here + 1 = omega arith in
    subst (λ (x : Talking). steps_left x < steps_left (holding coming v)) (sym so)
    (subst (λ (h : Option Coming). 2 * here + weight_held h < 2 * here + 1) (sym empty) less)

-- ---- an end where no association is open

leave_by : (side : Side) (s : EndState) (f : Option StackFault) → side ≡ sides.Called
    → s ≡ standings.Finishing → f ≡ None → may_leave side s f ≡ true
leave_by side s f c e g =
    ap (λ (x : Side). may_leave x s f) c ∙ ap (λ (x : EndState). may_leave sides.Called x f) e
    ∙ ap (λ (x : Option StackFault). may_leave sides.Called standings.Finishing x) g

released_may : (rows : CentreRows) (items : List Item) (told : List Arrival) (turns : List Turn)
    (v : Talking) (stage : Stage) → v.stage ≡ stage → IsShut stage
    → Runs rows items told turns askeds.Nothing (holding (coming_by causes.Released) v)
    → MayAnswer causes.Released v.course
released_may rows items told turns v stages.Early at shut r =
    absurd (due_at rows items told turns (coming_by causes.Released) v stages.Early at r)
released_may rows items told turns v (stages.Open peer detail) at shut r = absurd shut
released_may rows items told turns v (stages.Closed peer) at shut r = (
  r.stands.knows.side,
  leave_by v.course.known.side v.course.standing v.course.fault r.stands.knows.side
      (ap (λ (p : Position). p.standing) r.at ∙ ap (λ (x : Stage). finishing (standing_at x)) at)
      (ap (λ (p : Position). p.fault) r.at),
)

pub may_end : (cause : Cause) (stage : Stage) (v : Talking) → v.stage ≡ stage → IsShut stage
    → IsIdle v.progress → IsPlaced (holding (coming_by cause) v) → MayEnd cause v
may_end causes.Concluded stage v at shut idle p =
    absurd (not_concluded p.rows p.items p.told p.turns v stage at shut
    (running_idle p.rows p.items p.told p.turns (holding (coming_by causes.Concluded) v) idle
    p.stands))
may_end causes.Released stage v at shut idle p = record {
  other = tt;
  answer = released_may p.rows p.items p.told p.turns v stage at shut
      (running_idle p.rows p.items p.told p.turns (holding (coming_by causes.Released) v) idle
      p.stands);
  room = unsaid p.rows p.items p.told p.turns (coming_by causes.Released) v idle p.stands;
}
may_end causes.Aborted stage v at shut idle p = record {
  other = tt;
  answer = tt;
  room = unsaid p.rows p.items p.told p.turns (coming_by causes.Aborted) v idle p.stands;
}
may_end causes.LinkEnd stage v at shut idle p = record {
  other = tt;
  answer = tt;
  room = unsaid p.rows p.items p.told p.turns (coming_by causes.LinkEnd) v idle p.stands;
}
may_end (causes.Broken fault) stage v at shut idle p = record {
  other = tt;
  answer = tt;
  room = unsaid p.rows p.items p.told p.turns (coming_by (causes.Broken fault)) v idle p.stands;
}
