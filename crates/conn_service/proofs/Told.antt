-- What the node answers to an event of a connection may be told to it.
use Rattle.std.proofs.Common.{◌≡◌, ◌≢◌, ℕ, ◌+◌, Bool, true, false, List, [], ◌∷◌, ◌++◌, Option}
use Rattle.std.proofs.Common.{Some, None}
use Rattle.std.proofs.Common.{Ok, Err, is_some, refl, sym, subst, ◌∙◌}
use Rattle.std.specs.Prelude.{if◌then◌else◌, not, ◌&&◌, nat_lt, option_map}
use Rattle.std.proofs.lemmas.Bool.{true≢false}
use Rattle.bilateral.specs.Rows.{CentreRows}
use Rattle.sbo_device.specs.declared.key.Key.{Key}
use Rattle.tase_views.specs.Setup.{Setup}
use Rattle.tase_views.specs.History.{Past, association_in, stop_in}
use Rattle.tase_views.specs.Weights.{weight, weight_of}
use Rattle.tase_views.specs.Outcomes.{is_close, is_ending, stop_refusal, seat_refusal, name_refusal}
use Rattle.tase_views.specs.Outcomes.{clock_refusal, weight_refusal, first_refusal, refusal_of}
use Rattle.tase_views.specs.Outcomes.{answer_by, answer_of, IsRightOutcome}
use Rattle.tase_views.specs.declared.event.EventKind.{EventKind}
use Rattle.tase_views.specs.declared.event.EventKind.TheVariants as events
use Rattle.tase_views.specs.declared.reply.Answer.{Answer}
use Rattle.tase_views.specs.declared.fault.StepFault.{StepFault}
use Rattle.tase_views.specs.declared.fault.StepFault.TheVariants as faults
use Rattle.tase_conn.specs.Map.Asks.{AreServed, AreInTurn}
use Rattle.tase_conn.specs.declared.stage.PendingEvent.{PendingEvent}
use Rattle.tase_conn.specs.declared.stage.PendingEvent.TheVariants as askeds
use Rattle.tase_conn.specs.declared.stage.Cause.{Cause}
use Rattle.tase_conn.specs.declared.stage.ConnEnd.{ConnEnd}
use Rattle.tase_conn.specs.declared.stage.Progress.{Progress}
use Rattle.tase_conn.specs.declared.stage.Progress.TheVariants as progresses
use Rattle.tase_conn.specs.Talking.{IsFree}
use Rattle.tase_conn.specs.Wanting.{WaitsFor}
use Rattle.tase_conn.specs.Answering.{IsAnswerTo, IsAnswerFor, IsCutFault}
use Rattle.conn_service.specs.Courses.Serving.{IsWaiting}
use Rattle.conn_service.specs.Courses.Cutting.{IsClosingFor}

-- ---- which events may be wanted

pub waits_free : (p : Progress) → IsWaiting p None → IsFree p
waits_free (progresses.Running askeds.Nothing) w = tt
waits_free (progresses.Running (askeds.Opening peer granted)) w = absurd w
waits_free (progresses.Running (askeds.Requesting invoke)) w = absurd w
waits_free (progresses.Running askeds.Taking) w = absurd w
waits_free (progresses.Running (askeds.Closing cause)) w = absurd w
waits_free progresses.Refused w = absurd w
waits_free (progresses.Leaving end asked) w = absurd w
waits_free (progresses.Ended end) w = tt
waits_free (progresses.Cut end) w = absurd w

pub closing_free : (p : Progress) (left : ConnEnd) → IsClosingFor p None left → IsFree p
closing_free (progresses.Running asked) left w = absurd w
closing_free progresses.Refused left w = absurd w
closing_free (progresses.Leaving end true) left w = absurd w
closing_free (progresses.Leaving end false) left w = tt
closing_free (progresses.Ended end) left w = absurd w
closing_free (progresses.Cut end) left w = tt

-- ---- the refusal of an event that may be wanted

abbrev IsStopping : Option StepFault → Type 0
IsStopping None = Unit {0}
IsStopping (Some (faults.Stopped place)) = Unit {0}
IsStopping (Some fault) = ⊥

abbrev IsFilling : Option StepFault → Type 0
IsFilling None = Unit {0}
IsFilling (Some (faults.HistoryFull weight limit)) = Unit {0}
IsFilling (Some fault) = ⊥

-- a stop, or a full history
abbrev pub IsOurs : Option StepFault → Type 0
IsOurs None = Unit {0}
IsOurs (Some (faults.Stopped place)) = Unit {0}
IsOurs (Some (faults.HistoryFull weight limit)) = Unit {0}
IsOurs (Some fault) = ⊥

-- ---- no event of a connection is a tick

timeless : (past : Past) (event : EventKind) → ((now : ℕ) → event ≢ events.Tick now)
    → clock_refusal past event ≡ None
timeless past (events.Open peer) isnt = refl
timeless past (events.Request call) isnt = refl
timeless past events.Take isnt = refl
timeless past events.Close isnt = refl
timeless past (events.Update point value) isnt = refl
timeless past (events.Table chooser variant) isnt = refl
timeless past (events.Ask asker slot) isnt = refl
timeless past (events.Tag device tag) isnt = refl
timeless past events.TakeOrders isnt = refl
timeless past events.Stop isnt = refl
timeless past (events.Tick now) isnt = absurd (isnt now refl)

no_waiting_tick : (p : Progress) (now : ℕ) → IsWaiting p (Some (events.Tick now)) → ⊥
no_waiting_tick (progresses.Running askeds.Nothing) now w = absurd w
no_waiting_tick (progresses.Running (askeds.Opening peer granted)) now w = absurd w
no_waiting_tick (progresses.Running (askeds.Requesting invoke)) now w = absurd w
no_waiting_tick (progresses.Running askeds.Taking) now w = absurd w
no_waiting_tick (progresses.Running (askeds.Closing cause)) now w = absurd w
no_waiting_tick progresses.Refused now w = absurd w
no_waiting_tick (progresses.Leaving end waits) now w = absurd w
no_waiting_tick (progresses.Ended end) now w = absurd w
no_waiting_tick (progresses.Cut end) now w = absurd w

-- an event that waits
waiting_timeless : (past : Past) (p : Progress) (event : EventKind) → IsWaiting p (Some event)
    → clock_refusal past event ≡ None
waiting_timeless past p event w =
    timeless past event
    (λ now same. no_waiting_tick p now (subst (λ (e : EventKind). IsWaiting p (Some e)) same w))

not_nothing : (es : List EventKind) (event : EventKind) (rest : List EventKind)
    → es ++ event ∷ rest ≡ [] → ⊥
not_nothing [] event rest e = absurd cc
not_nothing (x ∷ es) event rest e = absurd cc

no_served_tick : (es : List EventKind) (now : ℕ) (rest : List EventKind)
    → AreServed (es ++ events.Tick now ∷ rest) → ⊥
no_served_tick [] now rest s = absurd s
no_served_tick (events.Open peer ∷ es) now rest s = absurd s
no_served_tick (events.Request call ∷ es) now rest s = no_served_tick es now rest s
no_served_tick (events.Take ∷ es) now rest s = no_served_tick es now rest s
no_served_tick (events.Close ∷ es) now rest s = absurd (not_nothing es (events.Tick now) rest s)
no_served_tick (events.Update point value ∷ es) now rest s = absurd s
no_served_tick (events.Table chooser variant ∷ es) now rest s = absurd s
no_served_tick (events.Tick moment ∷ es) now rest s = absurd s
no_served_tick (events.Ask asker slot ∷ es) now rest s = absurd s
no_served_tick (events.Tag device tag ∷ es) now rest s = absurd s
no_served_tick (events.TakeOrders ∷ es) now rest s = absurd s
no_served_tick (events.Stop ∷ es) now rest s = absurd s

no_tick_in_turn : (rows : CentreRows) (es : List EventKind) (now : ℕ) (rest : List EventKind)
    → AreInTurn rows (es ++ events.Tick now ∷ rest) → ⊥
no_tick_in_turn rows [] now rest t = absurd t
no_tick_in_turn rows (events.Open peer ∷ es) now rest t = no_served_tick es now rest t.1
no_tick_in_turn rows (events.Request call ∷ es) now rest t = absurd t
no_tick_in_turn rows (events.Take ∷ es) now rest t = absurd t
no_tick_in_turn rows (events.Close ∷ es) now rest t = absurd t
no_tick_in_turn rows (events.Update point value ∷ es) now rest t = absurd t
no_tick_in_turn rows (events.Table chooser variant ∷ es) now rest t = absurd t
no_tick_in_turn rows (events.Tick moment ∷ es) now rest t = absurd t
no_tick_in_turn rows (events.Ask asker slot ∷ es) now rest t = absurd t
no_tick_in_turn rows (events.Tag device tag ∷ es) now rest t = absurd t
no_tick_in_turn rows (events.TakeOrders ∷ es) now rest t = absurd t
no_tick_in_turn rows (events.Stop ∷ es) now rest t = absurd t

-- an event that comes in turn
pub in_turn_timeless : (rows : CentreRows) (past : Past) (es : List EventKind) (event : EventKind)
    (rest : List EventKind) → AreInTurn rows (es ++ event ∷ rest)
    → clock_refusal past event ≡ None
in_turn_timeless rows past es event rest t =
    timeless past event
    (λ now same. no_tick_in_turn rows es now rest
    (subst (λ (e : EventKind). AreInTurn rows (es ++ e ∷ rest)) same t))

place_stops : (b : Bool) (s : Option ℕ)
    → IsStopping (if b then None else option_map (λ place. faults.Stopped place) s)
place_stops true s = tt
place_stops false None = tt
place_stops false (Some place) = tt

weight_fills : (b : Bool) (w limit : ℕ)
    → IsFilling (if b then Some (faults.HistoryFull w limit) else None)
weight_fills true w limit = tt
weight_fills false w limit = tt

first_ours : (s w : Option StepFault) → IsStopping s → IsFilling w
    → IsOurs (first_refusal (s ∷ None ∷ None ∷ None ∷ w ∷ []))
first_ours None None a b = tt
first_ours None (Some faults.Memory) a b = absurd b
first_ours None (Some (faults.Stopped place)) a b = absurd b
first_ours None (Some (faults.HistoryFull weight limit)) a b = tt
first_ours None (Some faults.NoAssociation) a b = absurd b
first_ours None (Some faults.Already) a b = absurd b
first_ours None (Some faults.UnknownName) a b = absurd b
first_ours None (Some faults.ClockRange) a b = absurd b
first_ours None (Some (faults.Backward last)) a b = absurd b
first_ours (Some faults.Memory) w a b = absurd a
first_ours (Some (faults.Stopped place)) w a b = tt
first_ours (Some (faults.HistoryFull weight limit)) w a b = absurd a
first_ours (Some faults.NoAssociation) w a b = absurd a
first_ours (Some faults.Already) w a b = absurd a
first_ours (Some faults.UnknownName) w a b = absurd a
first_ours (Some faults.ClockRange) w a b = absurd a
first_ours (Some (faults.Backward last)) w a b = absurd a

pub refusal_is : (setup : Setup) (past : Past) (who : ℕ) (event : EventKind)
    → seat_refusal (association_in past who) event ≡ None → name_refusal setup.centre event ≡ None
    → clock_refusal past event ≡ None
    → refusal_of setup past who event ≡ first_refusal (stop_refusal past event ∷ None ∷ None
    ∷ None ∷ weight_refusal setup past event ∷ [])
refusal_is setup past who event seat name timed = rw (seat, name, timed) refl

-- an event that has its seat and its names, and is no tick, is refused for a stop or a full history
-- alone
pub refused_ours : (setup : Setup) (past : Past) (who : ℕ) (event : EventKind)
    → seat_refusal (association_in past who) event ≡ None → name_refusal setup.centre event ≡ None
    → clock_refusal past event ≡ None
    → IsOurs (refusal_of setup past who event)
refused_ours setup past who event seat name timed =
    subst (λ (o : Option StepFault). IsOurs o)
    (sym (refusal_is setup past who event seat name timed))
    (first_ours (stop_refusal past event) (weight_refusal setup past event)
    (place_stops (is_close event) (stop_in past))
    (weight_fills (not (is_ending event) && nat_lt setup.limit (weight_of past + weight event))
    (weight_of past + weight event) setup.limit))

-- a close is never refused
pub close_taken : (setup : Setup) (past : Past) (who : ℕ)
    → is_some (association_in past who) ≡ true → refusal_of setup past who events.Close ≡ None
close_taken setup past who there =
    refusal_is setup past who events.Close (seat_there (is_some (association_in past who)) there)
    refl refl
  where
    seat_there : (b : Bool) → b ≡ true
        → (if b then None else Some faults.NoAssociation) ≡ None
    seat_there true e = refl
    seat_there false e = absurd cc

-- ---- the answer

-- the seat of a request, a take and a close
abbrev IsKept : Option Key → Type 0
IsKept None = ⊥
IsKept (Some key) = Unit {0}

answer_told : (setup : Setup) (past : Past) (who : ℕ) (event : EventKind) (asked : PendingEvent)
    (found : Option Key) → WaitsFor (progresses.Running asked) event
    → association_in past who ≡ found → seat_refusal found event ≡ None
    → IsAnswerTo asked (Ok (answer_of setup past who event))
answer_told setup past who (events.Open opened) askeds.Nothing found w f s = absurd w
answer_told setup past who (events.Request call) askeds.Nothing found w f s = absurd w
answer_told setup past who events.Take askeds.Nothing found w f s = absurd w
answer_told setup past who events.Close askeds.Nothing found w f s = absurd w
answer_told setup past who (events.Update point value) askeds.Nothing found w f s = absurd w
answer_told setup past who (events.Table chooser variant) askeds.Nothing found w f s = absurd w
answer_told setup past who (events.Tick now) askeds.Nothing found w f s = absurd w
answer_told setup past who (events.Ask asker slot) askeds.Nothing found w f s = absurd w
answer_told setup past who (events.Tag device tag) askeds.Nothing found w f s = absurd w
answer_told setup past who events.TakeOrders askeds.Nothing found w f s = absurd w
answer_told setup past who events.Stop askeds.Nothing found w f s = absurd w
answer_told setup past who (events.Open opened) (askeds.Opening peer granted) found w f s = tt
answer_told setup past who (events.Request call) (askeds.Opening peer granted) found w f s =
    absurd w
answer_told setup past who events.Take (askeds.Opening peer granted) found w f s = absurd w
answer_told setup past who events.Close (askeds.Opening peer granted) found w f s = absurd w
answer_told setup past who (events.Update point value) (askeds.Opening peer granted) found w f s =
    absurd w
answer_told setup past who (events.Table chooser variant)
    (askeds.Opening peer granted) found w f s = absurd w
answer_told setup past who (events.Tick now)
    (askeds.Opening peer granted) found w f s = absurd w
answer_told setup past who (events.Ask asker slot)
    (askeds.Opening peer granted) found w f s = absurd w
answer_told setup past who (events.Tag device tag)
    (askeds.Opening peer granted) found w f s = absurd w
answer_told setup past who events.TakeOrders
    (askeds.Opening peer granted) found w f s = absurd w
answer_told setup past who events.Stop (askeds.Opening peer granted) found w f s = absurd w
answer_told setup past who (events.Open opened) (askeds.Requesting invoke) found w f s = absurd w
answer_told setup past who (events.Request call) (askeds.Requesting invoke) None w f s = absurd cc
answer_told setup past who (events.Request call) (askeds.Requesting invoke) (Some key) w f s =
    subst (λ (k : Option Key). IsAnswerTo (askeds.Requesting invoke)
    (Ok (answer_by setup.centre past (events.Request call) k))) (sym f) tt
answer_told setup past who events.Take (askeds.Requesting invoke) found w f s = absurd w
answer_told setup past who events.Close (askeds.Requesting invoke) found w f s = absurd w
answer_told setup past who (events.Update point value) (askeds.Requesting invoke) found w f s =
    absurd w
answer_told setup past who (events.Table chooser variant) (askeds.Requesting invoke) found w f s =
    absurd w
answer_told setup past who (events.Tick now) (askeds.Requesting invoke) found w f s =
    absurd w
answer_told setup past who (events.Ask asker slot) (askeds.Requesting invoke) found w f s =
    absurd w
answer_told setup past who (events.Tag device tag) (askeds.Requesting invoke) found w f s =
    absurd w
answer_told setup past who events.TakeOrders (askeds.Requesting invoke) found w f s =
    absurd w
answer_told setup past who events.Stop (askeds.Requesting invoke) found w f s = absurd w
answer_told setup past who (events.Open opened) askeds.Taking found w f s = absurd w
answer_told setup past who (events.Request call) askeds.Taking found w f s = absurd w
answer_told setup past who events.Take askeds.Taking None w f s = absurd cc
answer_told setup past who events.Take askeds.Taking (Some key) w f s =
    subst (λ (k : Option Key). IsAnswerTo askeds.Taking
    (Ok (answer_by setup.centre past events.Take k))) (sym f) tt
answer_told setup past who events.Close askeds.Taking found w f s = absurd w
answer_told setup past who (events.Update point value) askeds.Taking found w f s = absurd w
answer_told setup past who (events.Table chooser variant) askeds.Taking found w f s = absurd w
answer_told setup past who (events.Tick now) askeds.Taking found w f s = absurd w
answer_told setup past who (events.Ask asker slot) askeds.Taking found w f s = absurd w
answer_told setup past who (events.Tag device tag) askeds.Taking found w f s = absurd w
answer_told setup past who events.TakeOrders askeds.Taking found w f s = absurd w
answer_told setup past who events.Stop askeds.Taking found w f s = absurd w
answer_told setup past who (events.Open opened) (askeds.Closing cause) found w f s = absurd w
answer_told setup past who (events.Request call) (askeds.Closing cause) found w f s = absurd w
answer_told setup past who events.Take (askeds.Closing cause) found w f s = absurd w
answer_told setup past who events.Close (askeds.Closing cause) None w f s = absurd cc
answer_told setup past who events.Close (askeds.Closing cause) (Some key) w f s =
    subst (λ (k : Option Key). IsAnswerTo (askeds.Closing cause)
    (Ok (answer_by setup.centre past events.Close k))) (sym f) tt
answer_told setup past who (events.Update point value) (askeds.Closing cause) found w f s = absurd w
answer_told setup past who (events.Table chooser variant) (askeds.Closing cause) found w f s =
    absurd w
answer_told setup past who (events.Tick now) (askeds.Closing cause) found w f s =
    absurd w
answer_told setup past who (events.Ask asker slot) (askeds.Closing cause) found w f s =
    absurd w
answer_told setup past who (events.Tag device tag) (askeds.Closing cause) found w f s =
    absurd w
answer_told setup past who events.TakeOrders (askeds.Closing cause) found w f s =
    absurd w
answer_told setup past who events.Stop (askeds.Closing cause) found w f s = absurd w

pub nothing_waits : (event : EventKind)
    → IsWaiting (progresses.Running askeds.Nothing) (Some event) → ⊥
nothing_waits (events.Open opened) w = absurd w
nothing_waits (events.Request call) w = absurd w
nothing_waits events.Take w = absurd w
nothing_waits events.Close w = absurd w
nothing_waits (events.Update point value) w = absurd w
nothing_waits (events.Table chooser variant) w = absurd w
nothing_waits (events.Tick now) w = absurd w
nothing_waits (events.Ask asker slot) w = absurd w
nothing_waits (events.Tag device tag) w = absurd w
nothing_waits events.TakeOrders w = absurd w
nothing_waits events.Stop w = absurd w

waits_told : (setup : Setup) (past : Past) (who : ℕ) (event : EventKind) (p : Progress)
    → IsWaiting p (Some event) → seat_refusal (association_in past who) event ≡ None
    → IsAnswerFor p (Ok (answer_of setup past who event))
waits_told setup past who event (progresses.Running askeds.Nothing) w s =
    absurd (nothing_waits event w)
waits_told setup past who event (progresses.Running (askeds.Opening peer granted)) w s =
    answer_told setup past who event (askeds.Opening peer granted) (association_in past who) w refl
    s
waits_told setup past who event (progresses.Running (askeds.Requesting invoke)) w s =
    answer_told setup past who event (askeds.Requesting invoke) (association_in past who) w refl s
waits_told setup past who event (progresses.Running askeds.Taking) w s =
    answer_told setup past who event askeds.Taking (association_in past who) w refl s
waits_told setup past who event (progresses.Running (askeds.Closing cause)) w s =
    answer_told setup past who event (askeds.Closing cause) (association_in past who) w refl s
waits_told setup past who event progresses.Refused w s = absurd w
waits_told setup past who event (progresses.Leaving end asked) w s = absurd w
waits_told setup past who event (progresses.Ended end) w s = absurd w
waits_told setup past who event (progresses.Cut end) w s = absurd w

-- the right answer to the event that waits may be told
pub right_told : (setup : Setup) (past : Past) (who : ℕ) (event : EventKind) (p : Progress)
    (answer : Answer) → IsWaiting p (Some event)
    → seat_refusal (association_in past who) event ≡ None
    → IsRightOutcome setup past who event (Ok answer) → IsAnswerFor p (Ok answer)
right_told setup past who event p answer w s right =
    subst (λ (a : Answer). IsAnswerFor p (Ok a)) (sym right.1)
    (waits_told setup past who event p w s)

-- ---- the refusal

-- the event that a cause of the peer asks for
closing_close : (cause : Cause) (event : EventKind)
    → WaitsFor (progresses.Running (askeds.Closing cause)) event → event ≡ events.Close
closing_close cause (events.Open opened) w = absurd w
closing_close cause (events.Request call) w = absurd w
closing_close cause events.Take w = absurd w
closing_close cause events.Close w = refl
closing_close cause (events.Update point value) w = absurd w
closing_close cause (events.Table chooser variant) w = absurd w
closing_close cause (events.Tick now) w = absurd w
closing_close cause (events.Ask asker slot) w = absurd w
closing_close cause (events.Tag device tag) w = absurd w
closing_close cause events.TakeOrders w = absurd w
closing_close cause events.Stop w = absurd w

-- that of an event other than a close may be told
refusal_told : (event : EventKind) (fault : StepFault) (p : Progress)
    → IsWaiting p (Some event) → (event ≡ events.Close → ⊥) → IsCutFault fault
    → IsAnswerFor p (Err fault)
refusal_told event fault (progresses.Running askeds.Nothing) w c f = absurd (nothing_waits event w)
refusal_told event fault (progresses.Running (askeds.Opening peer granted)) w c f = f
refusal_told event fault (progresses.Running (askeds.Requesting invoke)) w c f = f
refusal_told event fault (progresses.Running askeds.Taking) w c f = f
refusal_told event fault (progresses.Running (askeds.Closing cause)) w c f =
    absurd (c (closing_close cause event w))
refusal_told event fault progresses.Refused w c f = absurd w
refusal_told event fault (progresses.Leaving end asked) w c f = absurd w
refusal_told event fault (progresses.Ended end) w c f = absurd w
refusal_told event fault (progresses.Cut end) w c f = absurd w

none_some : {f : StepFault} → None ≡ Some f → ⊥
none_some e = absurd cc

-- a close is taken
pub close_right : (setup : Setup) (past : Past) (who : ℕ) (event : EventKind) (fault : StepFault)
    → event ≡ events.Close → is_some (association_in past who) ≡ true
    → IsRightOutcome setup past who event (Err fault) → ⊥
close_right setup past who event fault is there right =
    never_refuses (close_taken setup past who there) fault
    (subst (λ (e : EventKind). IsRightOutcome setup past who e (Err fault)) is right)
  where
    never_refuses : refusal_of setup past who events.Close ≡ None → (f : StepFault)
        → IsRightOutcome setup past who events.Close (Err f) → ⊥
    never_refuses none faults.Memory r = true≢false r
    never_refuses none (faults.Stopped place) r = none_some (sym none ∙ r)
    never_refuses none (faults.HistoryFull weight limit) r = none_some (sym none ∙ r)
    never_refuses none faults.NoAssociation r = none_some (sym none ∙ r)
    never_refuses none faults.Already r = none_some (sym none ∙ r)
    never_refuses none faults.UnknownName r = none_some (sym none ∙ r)
    never_refuses none faults.ClockRange r = none_some (sym none ∙ r)
    never_refuses none (faults.Backward last) r = none_some (sym none ∙ r)

-- a seat that a close has
close_there : (found : Option Key) → seat_refusal found events.Close ≡ None
    → is_some found ≡ true
close_there None e = absurd cc
close_there (Some key) e = refl

-- an event that has its seat and its names is refused for a stop, a full history or want of memory
cut_fault : (setup : Setup) (past : Past) (who : ℕ) (event : EventKind) (fault : StepFault)
    → IsOurs (refusal_of setup past who event)
    → IsRightOutcome setup past who event (Err fault) → IsCutFault fault
cut_fault setup past who event faults.Memory ours right = tt
cut_fault setup past who event (faults.Stopped place) ours right = tt
cut_fault setup past who event (faults.HistoryFull weight limit) ours right = tt
cut_fault setup past who event faults.NoAssociation ours right =
    absurd (subst (λ (o : Option StepFault). IsOurs o) right ours)
cut_fault setup past who event faults.Already ours right =
    absurd (subst (λ (o : Option StepFault). IsOurs o) right ours)
cut_fault setup past who event faults.UnknownName ours right =
    absurd (subst (λ (o : Option StepFault). IsOurs o) right ours)
cut_fault setup past who event faults.ClockRange ours right =
    absurd (subst (λ (o : Option StepFault). IsOurs o) right ours)
cut_fault setup past who event (faults.Backward last) ours right =
    absurd (subst (λ (o : Option StepFault). IsOurs o) right ours)

-- and that may be told
pub waiting_refused : (setup : Setup) (past : Past) (who : ℕ) (event : EventKind)
    (fault : StepFault) (p : Progress) → IsWaiting p (Some event)
    → seat_refusal (association_in past who) event ≡ None → name_refusal setup.centre event ≡ None
    → IsRightOutcome setup past who event (Err fault) → IsAnswerFor p (Err fault)
waiting_refused setup past who event fault p w seat name right =
    refusal_told event fault p w
    (λ is. close_right setup past who event fault is (close_there (association_in past who)
    (subst (λ (e : EventKind). seat_refusal (association_in past who) e ≡ None) is seat)) right)
    (cut_fault setup past who event fault (refused_ours setup past who event seat name
    (waiting_timeless past p event w)) right)
