-- A node takes events of a seat one after another.
use Rattle.std.proofs.Common.{◌≡◌, ℕ, List, [], ◌∷◌, ◌++◌, reverse, Option, Some, None, refl, sym, ap}
use Rattle.std.proofs.Common.{subst, ◌∙◌, append_assoc, drop}
use Rattle.std.proofs.lemmas.List.{append-nil, reverse-append}
use Rattle.tase_views.specs.Setup.{Setup}
use Rattle.tase_views.specs.History.{Past}
use Rattle.tase_views.specs.Outcomes.{refusal_of, answer_of}
use Rattle.tase_views.specs.declared.event.EventKind.{EventKind}
use Rattle.tase_views.specs.declared.fault.StepFault.{StepFault}
use Rattle.tase_conn.specs.Map.Inputs.{Item}
use Rattle.tase_conn.specs.Map.Sent.{events_by, with_event}
use Rattle.tase_conn.specs.declared.stage.ConnEnd.{ConnEnd}
use Rattle.conn_service.specs.Courses.AnswerEnd.{end_answered}
use Rattle.conn_service.proofs.OfCourses.Seats.{event_here}
use Rattle.conn_service.specs.Served.{Served, served, served_by}
use Rattle.conn_service.specs.Attending.{TakesTo, TakesEvents}

-- none is refused, one by one, and no answer brings an end
abbrev pub TakesEach : Setup → ℕ → List Item → Past → List EventKind → Past → Type 0
TakesEach setup who items past [] after = after ≡ past
TakesEach setup who items past (event ∷ events) after =
    (refusal_of setup past who event ≡ None)
    × (end_answered items (answer_of setup past who event) ≡ None)
    × TakesEach setup who items (with_event who event past) events after

-- these, and then others
abbrev pub behind_taken : List EventKind → Served → Served
behind_taken taken s = record s { taken = taken ++ s.taken }

-- an event that isn't refused, and what its answer brings
served_one : (past after : Past) (event : EventKind) (r : Option StepFault)
    (long : Option ConnEnd) (others : Served) → r ≡ None → long ≡ None
    → served_by past after event r long others ≡ record others { taken = event ∷ others.taken }
served_one past after event r long others e f =
    ap (λ (x : Option StepFault). served_by past after event x long others) e
    ∙ ap (λ (x : Option ConnEnd). served_by past after event None x others) f

-- those that are taken, and then what comes of the others
pub each_served : (setup : Setup) (who : ℕ) (items : List Item) (past : Past)
    (taken rest : List EventKind) (between : Past)
    → TakesEach setup who items past taken between
    → served setup who items past (taken ++ rest)
    ≡ behind_taken taken (served setup who items between rest)
each_served setup who items past [] rest between t =
    ap (λ (p : Past). served setup who items p rest) (sym t)
each_served setup who items past (event ∷ taken) rest between t =
    let next = with_event who event past in
    served_one past next event (refusal_of setup past who event)
    (end_answered items (answer_of setup past who event))
    (served setup who items next (taken ++ rest)) t.0 t.1
    ∙ ap (λ (s : Served). record s { taken = event ∷ s.taken })
    (each_served setup who items next taken rest between t.2)

abbrev all_taken : List EventKind → Past → Option ConnEnd → Served
all_taken taken after brought =
    record { taken = taken; past = after; refusal = None; end = brought }

pub each_takes : (setup : Setup) (who : ℕ) (items : List Item) (past : Past)
    (taken : List EventKind) (after : Past) → TakesEach setup who items past taken after
    → TakesEvents setup who items past taken after
each_takes setup who items past taken after t =
    ap (λ (es : List EventKind). served setup who items past es) (sym (append-nil taken))
    ∙ each_served setup who items past taken [] after t
    ∙ ap (λ (es : List EventKind). all_taken es after None) (append-nil taken)

last_served : (past after : Past) (event : EventKind) (long : Option ConnEnd)
    → served_by past after event None long (all_taken [] after None)
    ≡ all_taken (event ∷ []) after long
last_served past after event None = refl
last_served past after event (Some end) = refl

-- and an event more, whose answer may bring an end
pub last_takes : (setup : Setup) (who : ℕ) (items : List Item) (past : Past)
    (taken : List EventKind) (between : Past) (event : EventKind)
    → TakesEach setup who items past taken between → refusal_of setup between who event ≡ None
    → TakesTo (end_answered items (answer_of setup between who event)) setup who items past
    (taken ++ event ∷ []) (with_event who event between)
last_takes setup who items past taken between event t r =
    let after = with_event who event between in
    let long = end_answered items (answer_of setup between who event) in
    each_served setup who items past taken (event ∷ []) between t
    ∙ ap (λ (s : Served). behind_taken taken s)
    (ap (λ (x : Option StepFault). served_by between after event x long (all_taken [] after None)) r
    ∙ last_served between after event long)

same_rest : (event : EventKind) (s : Served) (taken : List EventKind) (after : Past)
    → record s { taken = event ∷ s.taken } ≡ all_taken (event ∷ taken) after None
    → s ≡ all_taken taken after None
same_rest event s taken after e =
    let these : s.taken ≡ taken = ap (λ (x : Served). drop 1 x.taken) e in
    let past : s.past ≡ after = ap (λ (x : Served). x.past) e in
    let none : s.refusal ≡ None = ap (λ (x : Served). x.refusal) e in
    let goes : s.end ≡ None = ap (λ (x : Served). x.end) e in
    ap (λ (es : List EventKind). record {
      taken = es;
      past = s.past;
      refusal = s.refusal;
      end = s.end;
    }) these
    ∙ ap (λ (p : Past). record {
      taken = taken;
      past = p;
      refusal = s.refusal;
      end = s.end;
    }) past
    ∙ ap (λ (r : Option StepFault). record {
      taken = taken;
      past = after;
      refusal = r;
      end = s.end;
    }) none
    ∙ ap (λ (o : Option ConnEnd). all_taken taken after o) goes

some_none : {A : Type 0} {x : A} → Some x ≡ None → ⊥
some_none e = absurd cc

pub takes_each : (setup : Setup) (who : ℕ) (items : List Item) (past : Past)
    (taken : List EventKind) (after : Past) → TakesEvents setup who items past taken after
    → TakesEach setup who items past taken after
takes_each setup who items past [] after t = sym (ap (λ (s : Served). s.past) t)
takes_each setup who items past (event ∷ taken) after t =
    by (refusal_of setup past who event) (end_answered items (answer_of setup past who event)) refl
    refl (takes_each setup who items (with_event who event past) taken after)
  where
    by : (r : Option StepFault) (long : Option ConnEnd) → refusal_of setup past who event ≡ r
        → end_answered items (answer_of setup past who event) ≡ long
        → (TakesEvents setup who items (with_event who event past) taken after
        → TakesEach setup who items (with_event who event past) taken after)
        → TakesEach setup who items past (event ∷ taken) after
    by None None e f more = (
      e,
      f,
      more (same_rest event (served setup who items (with_event who event past) taken) taken after
          (sym (served_one past (with_event who event past) event (refusal_of setup past who event)
          (end_answered items (answer_of setup past who event))
          (served setup who items (with_event who event past) taken) e f) ∙ t)),
    )
    by None (Some end) e f more = absurd (some_none (ap (λ (s : Served). s.end)
        (sym (ap (λ (x : Option StepFault). served_by past (with_event who event past) event x
        (end_answered items (answer_of setup past who event))
        (served setup who items (with_event who event past) taken)) e
        ∙ ap (λ (x : Option ConnEnd). served_by past (with_event who event past) event None x
        (served setup who items (with_event who event past) taken)) f) ∙ t)))
    by (Some fault) long e f more = absurd (some_none (ap (λ (s : Served). s.refusal)
        (sym (ap (λ (x : Option StepFault). served_by past (with_event who event past) event x
        (end_answered items (answer_of setup past who event))
        (served setup who items (with_event who event past) taken)) e) ∙ t)))

-- an event more
pub taken_on : (setup : Setup) (who : ℕ) (items : List Item) (past : Past)
    (taken : List EventKind) (between : Past) (event : EventKind)
    → TakesEach setup who items past taken between → refusal_of setup between who event ≡ None
    → end_answered items (answer_of setup between who event) ≡ None
    → TakesEach setup who items past (taken ++ event ∷ []) (with_event who event between)
taken_on setup who items past [] between event t r f = (
  subst (λ (p : Past). refusal_of setup p who event ≡ None) t r,
  subst (λ (p : Past). end_answered items (answer_of setup p who event) ≡ None) t f,
  ap (λ (p : Past). with_event who event p) t,
)
taken_on setup who items past (first ∷ taken) between event t r f =
    (t.0, t.1, taken_on setup who items (with_event who first past) taken between event t.2 r f)

-- with an event of a seat more
pub event_behind : (who : ℕ) (past : Past) (event : EventKind)
    → reverse (events_by who (with_event who event past))
    ≡ reverse (events_by who past) ++ event ∷ []
event_behind who past event =
    ap (λ (es : List EventKind). reverse es) (event_here event past who)
    ∙ reverse-append (event ∷ []) (events_by who past)

pub events_taken : (setup : Setup) (who : ℕ) (items : List Item) (past : Past)
    (taken : List EventKind) (after : Past) → TakesEach setup who items past taken after
    → reverse (events_by who after) ≡ reverse (events_by who past) ++ taken
events_taken setup who items past [] after t =
    ap (λ (p : Past). reverse (events_by who p)) t ∙ sym (append-nil (reverse (events_by who past)))
events_taken setup who items past (first ∷ taken) after t =
    events_taken setup who items (with_event who first past) taken after t.2
    ∙ ap (λ (es : List EventKind). es ++ taken) (event_behind who past first)
    ∙ append_assoc (reverse (events_by who past)) (first ∷ []) taken
