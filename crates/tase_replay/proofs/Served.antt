-- What a node takes of the events that a line of a link asks.
use Rattle.std.proofs.Common.{◌≡◌, ℕ, List, [], ◌∷◌, ◌++◌, reverse, Option, Some, None, sym, ap, subst}
use Rattle.std.proofs.Common.{◌∙◌, refl, append_assoc, append-nil, drop}
use Rattle.tase_views.specs.Setup.{Setup}
use Rattle.tase_views.specs.History.{Past}
use Rattle.tase_views.specs.Outcomes.{refusal_of, answer_of}
use Rattle.tase_views.specs.declared.event.EventKind.{EventKind}
use Rattle.tase_views.specs.declared.fault.StepFault.{StepFault}
use Rattle.conn_service.specs.TaseConn.Map.Inputs.{Item}
use Rattle.conn_service.specs.TaseConn.Map.Asks.{AreInTurn}
use Rattle.conn_service.specs.TaseConn.Map.Sent.{events_by, with_event}
use Rattle.conn_service.proofs.TaseConn.OfMap.Unrefused.{unrefused}
use Rattle.conn_service.specs.TaseConn.declared.stage.ConnEnd.{ConnEnd}
use Rattle.conn_service.specs.Courses.AnswerEnd.{end_answered}
use Rattle.conn_service.specs.Served.{Served, served, served_by}
use Rattle.conn_service.specs.Attending.{TakesTo, TakesEvents}
use Rattle.conn_service.proofs.Takes.{each_served, takes_each, behind_taken, event_behind}
use Rattle.conn_service.proofs.Told.{IsOurs, in_turn_timeless, refused_ours}

-- those that were taken, and then the others
pub served_taken : (setup : Setup) (who : ℕ) (items : List Item) (past : Past)
    (taken rest : List EventKind) (between : Past)
    → TakesEvents setup who items past taken between
    → served setup who items past (taken ++ rest)
    ≡ behind_taken taken (served setup who items between rest)
served_taken setup who items past taken rest between t =
    each_served setup who items past taken rest between
    (takes_each setup who items past taken between t)

-- one that is refused is the last
pub served_refused : (setup : Setup) (who : ℕ) (items : List Item) (past : Past)
    (event : EventKind) (later : List EventKind) (fault : StepFault)
    → refusal_of setup past who event ≡ Some fault
    → served setup who items past (event ∷ later)
    ≡ record { taken = []; past = past; refusal = Some fault; end = None }
served_refused setup who items past event later fault r =
    ap (λ (o : Option StepFault). served_by past (with_event who event past) event o
    (end_answered items (answer_of setup past who event))
    (served setup who items (with_event who event past) later)) r

-- an event that a link asks is refused for a stop or a full history alone
refused_by : (past next : Past) (event : EventKind) (r : Option StepFault)
    (long : Option ConnEnd) (others : Served) → IsOurs r → IsOurs others.refusal
    → IsOurs (served_by past next event r long others).refusal
refused_by past next event None None others ours later = later
refused_by past next event None (Some end) others ours later = tt
refused_by past next event (Some fault) long others ours later = ours

pub served_ours : (setup : Setup) (who : ℕ) (items : List Item) (past : Past)
    (asked : List EventKind) → AreInTurn setup.centre (reverse (events_by who past) ++ asked)
    → IsOurs (served setup who items past asked).refusal
served_ours setup who items past [] t = tt
served_ours setup who items past (event ∷ asked) t =
    let free = unrefused setup.centre past who event asked t in
    let next = with_event who event past in
    refused_by past next event (refusal_of setup past who event)
    (end_answered items (answer_of setup past who event)) (served setup who items next asked)
    (refused_ours setup past who event free.0 free.1
    (in_turn_timeless setup.centre past (reverse (events_by who past)) event asked t))
    (served_ours setup who items next asked
    (subst (λ (es : List EventKind). AreInTurn setup.centre es)
    (sym (ap (λ (es : List EventKind). es ++ asked) (event_behind who past event)
    ∙ append_assoc (reverse (events_by who past)) (event ∷ []) asked)) t))

-- ---- whatever end the answer to the last event brings

-- all of these, and the end that the answer to the last brings, if it brings one
abbrev pub all_taken : List EventKind → Past → Option ConnEnd → Served
all_taken taken past end = record { taken = taken; past = past; refusal = None; end = end }

-- the seat's events behind what was taken
events_served : (setup : Setup) (who : ℕ) (items : List Item) (past : Past)
    (events : List EventKind)
    → reverse (events_by who (served setup who items past events).past)
    ≡ reverse (events_by who past) ++ (served setup who items past events).taken
events_served setup who items past [] = sym (append-nil (reverse (events_by who past)))
events_served setup who items past (event ∷ events) =
    by (refusal_of setup past who event) (end_answered items (answer_of setup past who event))
    (served setup who items (with_event who event past) events)
    (events_served setup who items (with_event who event past) events)
  where
    by : (r : Option StepFault) (long : Option ConnEnd) (more : Served)
        → reverse (events_by who more.past)
        ≡ reverse (events_by who (with_event who event past)) ++ more.taken
        → reverse (events_by who
        (served_by past (with_event who event past) event r long more).past)
        ≡ reverse (events_by who past)
        ++ (served_by past (with_event who event past) event r long more).taken
    by None None more e =
        e ∙ ap (λ (es : List EventKind). es ++ more.taken) (event_behind who past event)
        ∙ append_assoc (reverse (events_by who past)) (event ∷ []) more.taken
    by None (Some end) more e = event_behind who past event
    by (Some fault) long more e = sym (append-nil (reverse (events_by who past)))

pub events_up_to : (setup : Setup) (who : ℕ) (items : List Item) (past : Past)
    (taken : List EventKind) (after : Past) (end : Option ConnEnd)
    → TakesTo end setup who items past taken after
    → reverse (events_by who after) ≡ reverse (events_by who past) ++ taken
events_up_to setup who items past taken after end t =
    ap (λ (s : Served). reverse (events_by who s.past)) (sym t)
    ∙ events_served setup who items past taken
    ∙ ap (λ (s : Served). reverse (events_by who past) ++ s.taken) t

same_others : (event : EventKind) (s : Served) (taken : List EventKind) (after : Past)
    (end : Option ConnEnd)
    → record s { taken = event ∷ s.taken } ≡ all_taken (event ∷ taken) after end
    → s ≡ all_taken taken after end
same_others event s taken after end e = ap (λ (x : Served). record x { taken = drop 1 x.taken }) e

no_fault : {f : StepFault} → Some f ≡ None → ⊥
no_fault e = absurd cc

no_end : {end : ConnEnd} → Some end ≡ None → ⊥
no_end e = absurd cc

-- an event that is taken, by the end that its answer brings
by_answer : (setup : Setup) (who : ℕ) (items : List Item) (past : Past) (event : EventKind)
    (events : List EventKind) (long : Option ConnEnd) → refusal_of setup past who event ≡ None
    → end_answered items (answer_of setup past who event) ≡ long
    → served setup who items past (event ∷ events)
    ≡ served_by past (with_event who event past) event None long
    (served setup who items (with_event who event past) events)
by_answer setup who items past event events long r e =
    let next = with_event who event past in
    let more = served setup who items next events in
    ap (λ (f : Option StepFault). served_by past next event f
    (end_answered items (answer_of setup past who event)) more) r
    ∙ ap (λ (o : Option ConnEnd). served_by past next event None o more) e

-- behind an answer that brings an end nothing is taken, whatever comes
pub left_alone : (setup : Setup) (who : ℕ) (items : List Item) (past : Past)
    (taken rest : List EventKind) (after : Past) (end : ConnEnd)
    → TakesTo (Some end) setup who items past taken after
    → served setup who items past (taken ++ rest) ≡ all_taken taken after (Some end)
left_alone setup who items past [] rest after end t =
    absurd (no_end (sym (ap (λ (s : Served). s.end) t)))
left_alone setup who items past (event ∷ taken) rest after end t =
    by (refusal_of setup past who event) (end_answered items (answer_of setup past who event)) refl
    refl (left_alone setup who items (with_event who event past) taken rest after end)
  where
    by : (r : Option StepFault) (long : Option ConnEnd) → refusal_of setup past who event ≡ r
        → end_answered items (answer_of setup past who event) ≡ long
        → (TakesTo (Some end) setup who items (with_event who event past) taken after
        → served setup who items (with_event who event past) (taken ++ rest)
        ≡ all_taken taken after (Some end))
        → served setup who items past (event ∷ (taken ++ rest))
        ≡ all_taken (event ∷ taken) after (Some end)
    by None None r e further =
        by_answer setup who items past event (taken ++ rest) None r e
        ∙ ap (λ (s : Served). record s { taken = event ∷ s.taken })
        (further (same_others event (served setup who items (with_event who event past) taken)
        taken after (Some end) (sym (by_answer setup who items past event taken None r e) ∙ t)))
    by None (Some other) r e further =
        by_answer setup who items past event (taken ++ rest) (Some other) r e
        ∙ sym (by_answer setup who items past event taken (Some other) r e) ∙ t
    by (Some fault) long r e further = absurd (no_fault (ap (λ (s : Served). s.refusal)
        (sym (ap (λ (f : Option StepFault). served_by past (with_event who event past) event f
        (end_answered items (answer_of setup past who event))
        (served setup who items (with_event who event past) taken)) r) ∙ t)))
