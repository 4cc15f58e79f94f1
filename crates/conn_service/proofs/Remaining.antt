-- A node's history grows only so far, so that a connection wants nothing more at last.
use Rattle.std.proofs.Common.{◌≡◌, ℕ, ◌+◌, ◌<◌, ◌≤◌, Bool, true, false, [], ◌∷◌}
use Rattle.std.proofs.Common.{Option, Some, None, is_some, refl, ap, subst, arith}
use Rattle.std.specs.Prelude.{if◌then◌else◌}
use Rattle.std.proofs.lemmas.Bool.{ltb-false}
use Rattle.sbo_device.specs.declared.key.Key.{Key}
use Rattle.tase_views.specs.Setup.{Setup}
use Rattle.tase_views.specs.History.{Past, association_in}
use Rattle.tase_views.specs.Weights.{weight, weight_of}
use Rattle.tase_views.specs.Outcomes.{stop_refusal, seat_refusal, name_refusal, weight_refusal}
use Rattle.tase_views.specs.Outcomes.{first_refusal, refusal_of}
use Rattle.tase_views.specs.declared.call.CallKind.{CallKind}
use Rattle.tase_views.specs.declared.event.EventKind.{EventKind}
use Rattle.tase_views.specs.declared.event.EventKind.TheVariants as events
use Rattle.tase_views.specs.declared.fault.StepFault.{StepFault}
use Rattle.tase_conn.specs.declared.stage.PendingEvent.{PendingEvent}
use Rattle.tase_conn.specs.declared.stage.PendingEvent.TheVariants as askeds
use Rattle.tase_conn.specs.declared.stage.Progress.{Progress}
use Rattle.tase_conn.specs.declared.stage.Progress.TheVariants as progresses
use Rattle.conn_service.specs.Courses.Serving.{IsWaiting}
use Rattle.tase_conn.specs.Map.Sent.{with_event}
use Rattle.conn_service.proofs.OfCourses.Seats.{at_seat}
use Rattle.conn_service.proofs.OfCourses.Wanted.{waiting_of}
use Rattle.conn_service.specs.Attending.{remaining, seat_count}

-- ---- events that take room

open_weighs : (peer : ℕ) → 1 ≤ weight (events.Open peer)
open_weighs peer = omega arith

request_weighs : (call : CallKind) → 1 ≤ weight (events.Request call)
request_weighs call = omega arith

take_weighs : 1 ≤ weight events.Take
take_weighs = omega arith

-- ---- what isn't refused

some_not : {f : StepFault} → Some f ≡ None → ⊥
some_not e = absurd cc

record NoRefusal (a b c d : Option StepFault) : Type 0 where
  pub seat : b ≡ None
  pub heavy : d ≡ None

-- of an event that is no tick
no_refusal : (a b c d : Option StepFault) → first_refusal (a ∷ b ∷ c ∷ None ∷ d ∷ []) ≡ None
    → NoRefusal a b c d
no_refusal (Some f) b c d e = absurd (some_not e)
no_refusal None (Some f) c d e = absurd (some_not e)
no_refusal None None (Some f) d e = absurd (some_not e)
no_refusal None None None (Some f) e = absurd (some_not e)
no_refusal None None None None e = record { seat = refl; heavy = refl }

fits_by : (b : Bool) (f : StepFault) → (if b then Some f else None) ≡ None → b ≡ false
fits_by true f e = absurd (some_not e)
fits_by false f e = refl

none_by : (b : Bool) (f : StepFault) → (if b then Some f else None) ≡ None → b ≡ false
none_by true f e = absurd (some_not e)
none_by false f e = refl

count_none : (found : Option Key) → is_some found ≡ false → seat_count found ≡ 0
count_none None e = refl
count_none (Some key) e = absurd cc

there_by : (b : Bool) (f : StepFault) → (if b then None else Some f) ≡ None → b ≡ true
there_by true f e = refl
there_by false f e = absurd (some_not e)

count_one : (found : Option Key) → is_some found ≡ true → seat_count found ≡ 1
count_one None e = absurd cc
count_one (Some key) e = refl

-- ---- one event

-- what an event that isn't refused leaves of what may still be taken
abbrev pub LeavesLess : Setup → Past → ℕ → EventKind → Type 0
LeavesLess setup past who event =
    remaining setup (with_event who event past) who < remaining setup past who

open_less : (setup : Setup) (past : Past) (who peer : ℕ)
    → refusal_of setup past who (events.Open peer) ≡ None
    → LeavesLess setup past who (events.Open peer)
open_less setup past who peer r =
    let event = events.Open peer in
    let n = no_refusal (stop_refusal past event) (seat_refusal (association_in past who) event)
    (name_refusal setup.centre event) (weight_refusal setup past event) r in
    let heavy : weight_of past + weight event ≤ setup.limit =
    ltb-false setup.limit (weight_of past + weight event) (fits_by _ _ n.heavy) in
    let before : seat_count (association_in past who) ≡ 0 =
    count_none (association_in past who) (none_by _ _ n.seat) in
    let after : seat_count (association_in (with_event who event past) who) ≡ 1 =
    ap (λ (k : Option Key). seat_count k) (at_seat event past who) in
    omega (arith, heavy, before, after, open_weighs peer)

request_less : (setup : Setup) (past : Past) (who : ℕ) (call : CallKind)
    → refusal_of setup past who (events.Request call) ≡ None
    → LeavesLess setup past who (events.Request call)
request_less setup past who call r =
    let event = events.Request call in
    let n = no_refusal (stop_refusal past event) (seat_refusal (association_in past who) event)
    (name_refusal setup.centre event) (weight_refusal setup past event) r in
    let heavy : weight_of past + weight event ≤ setup.limit =
    ltb-false setup.limit (weight_of past + weight event) (fits_by _ _ n.heavy) in
    let same : seat_count (association_in (with_event who event past) who)
    ≡ seat_count (association_in past who) =
    ap (λ (k : Option Key). seat_count k) (at_seat event past who) in
    omega (arith, heavy, same, request_weighs call)

take_less : (setup : Setup) (past : Past) (who : ℕ)
    → refusal_of setup past who events.Take ≡ None → LeavesLess setup past who events.Take
take_less setup past who r =
    let event = events.Take in
    let n = no_refusal (stop_refusal past event) (seat_refusal (association_in past who) event)
    (name_refusal setup.centre event) (weight_refusal setup past event) r in
    let heavy : weight_of past + weight event ≤ setup.limit =
    ltb-false setup.limit (weight_of past + weight event) (fits_by _ _ n.heavy) in
    let same : seat_count (association_in (with_event who event past) who)
    ≡ seat_count (association_in past who) =
    ap (λ (k : Option Key). seat_count k) (at_seat event past who) in
    omega (arith, heavy, same, take_weighs)

close_less : (setup : Setup) (past : Past) (who : ℕ)
    → refusal_of setup past who events.Close ≡ None → LeavesLess setup past who events.Close
close_less setup past who r =
    let event = events.Close in
    let n = no_refusal (stop_refusal past event) (seat_refusal (association_in past who) event)
    (name_refusal setup.centre event) (weight_refusal setup past event) r in
    let before : seat_count (association_in past who) ≡ 1 =
    count_one (association_in past who) (there_by _ _ n.seat) in
    let after : seat_count (association_in (with_event who event past) who) ≡ 0 =
    ap (λ (k : Option Key). seat_count k) (at_seat event past who) in
    omega (arith, before, after)

asked_less : (setup : Setup) (past : Past) (who : ℕ) (event : EventKind) (asked : PendingEvent)
    → IsWaiting (progresses.Running asked) (Some event)
    → refusal_of setup past who event ≡ None → LeavesLess setup past who event
asked_less setup past who (events.Open opened) askeds.Nothing w r = absurd w
asked_less setup past who (events.Request call) askeds.Nothing w r = absurd w
asked_less setup past who events.Take askeds.Nothing w r = absurd w
asked_less setup past who events.Close askeds.Nothing w r = absurd w
asked_less setup past who (events.Update point value) askeds.Nothing w r = absurd w
asked_less setup past who (events.Table chooser variant) askeds.Nothing w r = absurd w
asked_less setup past who (events.Tick now) askeds.Nothing w r = absurd w
asked_less setup past who (events.Ask asker slot) askeds.Nothing w r = absurd w
asked_less setup past who (events.Tag device tag) askeds.Nothing w r = absurd w
asked_less setup past who events.TakeOrders askeds.Nothing w r = absurd w
asked_less setup past who events.Stop askeds.Nothing w r = absurd w
asked_less setup past who (events.Open opened) (askeds.Opening peer granted) w r =
    open_less setup past who opened r
asked_less setup past who (events.Request call) (askeds.Opening peer granted) w r = absurd w
asked_less setup past who events.Take (askeds.Opening peer granted) w r = absurd w
asked_less setup past who events.Close (askeds.Opening peer granted) w r = absurd w
asked_less setup past who (events.Update point value) (askeds.Opening peer granted) w r = absurd w
asked_less setup past who (events.Table chooser variant) (askeds.Opening peer granted) w r =
    absurd w
asked_less setup past who (events.Tick now) (askeds.Opening peer granted) w r =
    absurd w
asked_less setup past who (events.Ask asker slot) (askeds.Opening peer granted) w r =
    absurd w
asked_less setup past who (events.Tag device tag) (askeds.Opening peer granted) w r =
    absurd w
asked_less setup past who events.TakeOrders (askeds.Opening peer granted) w r =
    absurd w
asked_less setup past who events.Stop (askeds.Opening peer granted) w r = absurd w
asked_less setup past who (events.Open opened) (askeds.Requesting invoke) w r = absurd w
asked_less setup past who (events.Request call) (askeds.Requesting invoke) w r =
    request_less setup past who call r
asked_less setup past who events.Take (askeds.Requesting invoke) w r = absurd w
asked_less setup past who events.Close (askeds.Requesting invoke) w r = absurd w
asked_less setup past who (events.Update point value) (askeds.Requesting invoke) w r = absurd w
asked_less setup past who (events.Table chooser variant) (askeds.Requesting invoke) w r = absurd w
asked_less setup past who (events.Tick now) (askeds.Requesting invoke) w r = absurd w
asked_less setup past who (events.Ask asker slot) (askeds.Requesting invoke) w r = absurd w
asked_less setup past who (events.Tag device tag) (askeds.Requesting invoke) w r = absurd w
asked_less setup past who events.TakeOrders (askeds.Requesting invoke) w r = absurd w
asked_less setup past who events.Stop (askeds.Requesting invoke) w r = absurd w
asked_less setup past who (events.Open opened) askeds.Taking w r = absurd w
asked_less setup past who (events.Request call) askeds.Taking w r = absurd w
asked_less setup past who events.Take askeds.Taking w r = take_less setup past who r
asked_less setup past who events.Close askeds.Taking w r = absurd w
asked_less setup past who (events.Update point value) askeds.Taking w r = absurd w
asked_less setup past who (events.Table chooser variant) askeds.Taking w r = absurd w
asked_less setup past who (events.Tick now) askeds.Taking w r = absurd w
asked_less setup past who (events.Ask asker slot) askeds.Taking w r = absurd w
asked_less setup past who (events.Tag device tag) askeds.Taking w r = absurd w
asked_less setup past who events.TakeOrders askeds.Taking w r = absurd w
asked_less setup past who events.Stop askeds.Taking w r = absurd w
asked_less setup past who (events.Open opened) (askeds.Closing cause) w r = absurd w
asked_less setup past who (events.Request call) (askeds.Closing cause) w r = absurd w
asked_less setup past who events.Take (askeds.Closing cause) w r = absurd w
asked_less setup past who events.Close (askeds.Closing cause) w r = close_less setup past who r
asked_less setup past who (events.Update point value) (askeds.Closing cause) w r = absurd w
asked_less setup past who (events.Table chooser variant) (askeds.Closing cause) w r = absurd w
asked_less setup past who (events.Tick now) (askeds.Closing cause) w r = absurd w
asked_less setup past who (events.Ask asker slot) (askeds.Closing cause) w r = absurd w
asked_less setup past who (events.Tag device tag) (askeds.Closing cause) w r = absurd w
asked_less setup past who events.TakeOrders (askeds.Closing cause) w r = absurd w
asked_less setup past who events.Stop (askeds.Closing cause) w r = absurd w

-- an event that waits and isn't refused leaves less
pub waits_less : (setup : Setup) (past : Past) (who : ℕ) (event : EventKind) (p : Progress)
    → IsWaiting p (Some event) → refusal_of setup past who event ≡ None
    → LeavesLess setup past who event
waits_less setup past who event p w r =
    let f = waiting_of p event w in
    asked_less setup past who event f.0 (subst (λ (x : Progress). IsWaiting x (Some event)) f.1 w) r
