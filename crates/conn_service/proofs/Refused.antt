-- Of a connection whose event the node has refused: all octets that its peer is sent are said once
-- its association is closed.
use Rattle.std.proofs.Common.{◌≡◌, ℕ, Bool, true, false, List, [], ◌∷◌, ◌++◌, reverse}
use Rattle.std.proofs.Common.{Some, None, Err, refl, sym, ap, subst, ◌∙◌}
use Rattle.std.proofs.Common.{append_assoc}
use Rattle.std.specs.Prelude.{if◌then◌else◌}
use Rattle.std.proofs.lemmas.Bool.{false≢true, true≢false}
use Rattle.std.proofs.lemmas.List.{append-nil}
use Rattle.mms_services.specs.declared.initiate.Initiate.{Initiate}
use Rattle.stack_assoc.specs.Courses.{Course, is_accepted}
use Rattle.stack_assoc.specs.declared.end_state.EndState.{EndState}
use Rattle.bilateral.specs.Rows.{CentreRows}
use Rattle.tase_views.specs.Setup.{Setup}
use Rattle.tase_views.specs.History.{Past}
use Rattle.tase_views.specs.Outcomes.{IsRightOutcome, refusal_of}
use Rattle.tase_views.specs.declared.event.EventKind.{EventKind}
use Rattle.tase_views.specs.declared.event.EventKind.TheVariants as events
use Rattle.tase_views.specs.declared.fault.StepFault.{StepFault}
use Rattle.tase_views.specs.declared.fault.StepFault.TheVariants as faults
use Rattle.node_core.specs.NodeState.{NodeState}
use Rattle.tase_conn.specs.Map.Inputs.{Item}
use Rattle.tase_conn.specs.Map.Turns.{Turn, asks}
use Rattle.tase_conn.specs.Map.Turns.{pauses, turns_of}
use Rattle.tase_conn.specs.Map.Asks.{without_pauses}
use Rattle.tase_conn.specs.declared.stage.PendingEvent.{PendingEvent}
use Rattle.tase_conn.specs.declared.stage.PendingEvent.TheVariants as askeds
use Rattle.tase_conn.specs.declared.stage.ConnEnd.{ConnEnd}
use Rattle.tase_conn.specs.declared.stage.Progress.{Progress}
use Rattle.tase_conn.specs.declared.stage.Progress.TheVariants as progresses
use Rattle.tase_conn.specs.declared.stage.Stage.{Stage}
use Rattle.tase_conn.specs.declared.stage.Stage.TheVariants as stages
use Rattle.tase_conn.specs.Talking.{Talking, pending_of, is_open_stage, is_leaving}
use Rattle.tase_conn.specs.Places.{GoesBy, Runs, Position, has_begun}
use Rattle.tase_conn.specs.Places.{KeepsPlace}
use Rattle.tase_conn.proofs.Known.{begun_connected, served_position, opening_position}
use Rattle.tase_conn.specs.Leaving.{IsLeft}
use Rattle.tase_conn.specs.Answering.{parting_octets, IsAnswerFor, aborts as aborts_for}
use Rattle.tase_conn.specs.Answering.{end_of_fault}
use Rattle.conn_service.specs.Courses.Serving.{Serves, SaysBy, SaysOpen, IsWaiting}
use Rattle.tase_conn.specs.Map.Sent.{with_event}
use Rattle.conn_service.specs.Courses.Serving.{HoldsOfAllInput}
use Rattle.conn_service.specs.Courses.Cutting.{IsUnexplained, HasLeft, HasSetupOf, left_said}
use Rattle.conn_service.proofs.OfCourses.Answered.{asked_turn, opens_early, request_served, take_served}
use Rattle.conn_service.proofs.OfCourses.Answered.{IsServedAt, take_whole}
use Rattle.conn_service.proofs.OfCourses.Left.{setup_known, stands_by, unparted, open_left, closed_says}
use Rattle.conn_service.proofs.OfCourses.Leftover.{all_said}
use Rattle.conn_service.proofs.OfCourses.Served.{begins_turns, next_asked}
use Rattle.conn_service.proofs.OfCourses.Unopened.{unopened_said}
use Rattle.conn_service.proofs.OfCourses.Wanted.{waiting_of}
use Rattle.conn_service.specs.Attending.{IsAsking, IsParting, ClosesLeft}
use Rattle.conn_service.specs.Attending.{closing_said, IsNodesEnd, IsBrought, CutsOff}
use Rattle.conn_service.specs.Served.{with_closed}
use Rattle.conn_service.specs.Sends.{IsCutFor, IsSaidByEnd}
use Rattle.tase_conn.specs.Map.Linked.{link_octets}
use Rattle.conn_service.proofs.Closed.{none_left, said_whole}
use Rattle.conn_service.proofs.Going.{seat_open, refused_left, left_goes}
use Rattle.conn_service.proofs.Going.{serving_refused}
use Rattle.conn_service.proofs.Told.{nothing_waits}

-- ---- what stands at the place of the close

-- nothing in the text explains the close, and the association stands
record Refused (items : List Item) (answered : List Turn) (v : Talking) : Type 0 where
  rest : List Turn
  is : turns_of items ≡ answered ++ rest
  unexplained : IsUnexplained (without_pauses rest)
  accepted : is_accepted v.course.standing ≡ true
  setup : HoldsOfAllInput items answered (HasSetupOf v.course)

-- where its association is open, and an event waits
refused_at : (rows : CentreRows) (past : Past) (who : ℕ) (items : List Item) (said : List ℕ)
    (event : EventKind) (asked : PendingEvent) (rest : List Turn) (v : Talking)
    → (s : Serves rows past who items said (Some event) v)
    → Runs rows items s.told s.turns asked v → IsServedAt v.stage v.held
    → turns_of items ≡ s.answered ++ rest → IsUnexplained (without_pauses rest)
    → is_accepted v.course.standing ≡ true → Refused items s.answered v
refused_at rows past who items said event asked rest v s r w is un accepted =
    let connect = begun_connected r (ap (λ (x : Stage). has_begun x) w.stage_is) in
    record {
      rest = rest;
      is = is;
      unexplained = un;
      accepted = accepted;
      setup = setup_known items s.told s.answered rows s.turns asked v r connect;
    }

open_never : (stage : Stage) → stage ≡ stages.Early → is_open_stage stage ≡ true → ⊥
open_never stage early is = false≢true (sym (ap (λ (x : Stage). is_open_stage x) early) ∙ is)

refused_by : (rows : CentreRows) (past : Past) (who : ℕ) (items : List Item)
    (said : List ℕ) (event : EventKind) (fault : StepFault) (asked : PendingEvent) (v : Talking)
    → (s : Serves rows past who items said (Some event) v)
    → IsWaiting (progresses.Running asked) (Some event)
    → IsAnswerFor (progresses.Running asked) (Err fault)
    → Runs rows items s.told s.turns asked v → is_open_stage v.stage ≡ true
    → Refused items s.answered v
refused_by rows past who items said event fault askeds.Nothing v s w f r is =
    absurd (nothing_waits event w)
refused_by rows past who items said event fault (askeds.Opening peer granted) v s w f r is =
    absurd (open_never v.stage (opens_early peer granted v.stage v.held r.waits) is)
refused_by rows past who items said event fault (askeds.Requesting invoke) v s w f r is =
    let call = r.last.0 in
    let at = asked_turn rows s.answered s.turns event (asks invoke call) s.are r.last.1 in
    let b = begins_turns rows items s.told s.turns (askeds.Requesting invoke) v r in
    refused_at rows past who items said event (askeds.Requesting invoke) (asks invoke call ∷ b.0) v
    s
    r (request_served invoke v.stage v.held r.waits)
    (b.1 ∙ ap (λ (ts : List Turn). ts ++ b.0) at.is
    ∙ append_assoc s.answered (asks invoke call ∷ []) b.0)
    tt (ap (λ (p : Position). is_accepted p.standing) (served_position r tt))
refused_by rows past who items said event fault askeds.Taking v s w f r is =
    let at = asked_turn rows s.answered s.turns event pauses s.are r.last in
    refused_at rows past who items said event askeds.Taking (pauses ∷ []) v s r
    (take_served v.stage v.held r.waits)
    (take_whole rows items s.told s.turns v r ∙ at.is) tt
    (ap (λ (p : Position). is_accepted p.standing) (served_position r tt))
refused_by rows past who items said event fault (askeds.Closing cause) v s w f r is = absurd f

refused : (setup : Setup) (past : Past) (who : ℕ) (items : List Item) (said : List ℕ)
    (event : EventKind) (fault : StepFault) (v : Talking)
    → (s : Serves setup.centre past who items said (Some event) v)
    → IsRightOutcome setup past who event (Err fault)
    → is_open_stage v.stage ≡ true → Refused items s.answered v
refused setup past who items said event fault v s right is =
    let rows = setup.centre in
    let found = waiting_of v.progress event s.waits in
    refused_by rows past who items said event fault found.0 v s
    (subst (λ (x : Progress). IsWaiting x (Some event)) found.1 s.waits)
    (subst (λ (x : Progress). IsAnswerFor x (Err fault)) found.1
    (serving_refused setup past who items said event fault v s right))
    (subst (λ (x : Progress). GoesBy x rows items s.told s.turns v) found.1 s.stands.goes) is

-- ---- the octets of the close

-- all that the peer is sent, and at last an abort
abort_said : (rows : CentreRows) (past : Past) (who : ℕ) (items : List Item) (said : List ℕ)
    (event : EventKind) (end : ConnEnd) (v : Talking) → aborts_for end ≡ true
    → (s : Serves rows past who items said (Some event) v)
    → Refused items s.answered v → SaysOpen rows past who items s.answered said
    → said ++ parting_octets v.course end
    ≡ link_octets rows (with_event who events.Close past) who items
abort_said rows past who items said event end v cuts s f says =
    all_said end v.course.standing rows (with_event who events.Close past) who items s.answered
    f.rest (said ++ parting_octets v.course end) s.input f.is f.unexplained cuts f.accepted
    (closed_says true rows past who items s.answered said end v.course.standing v.course
    (open_left rows past who items s.answered said v.course s.asked f.setup says))

-- ---- where none was open

-- nothing more is said, and all was
early_by : (rows : CentreRows) (past : Past) (who : ℕ) (items : List Item) (said : List ℕ)
    (event : EventKind) (peer : ℕ) (granted : Initiate) (v : Talking)
    → Serves rows past who items said (Some event) v
    → IsWaiting (progresses.Running (askeds.Opening peer granted)) (Some event)
    → said ≡ link_octets rows past who items
early_by rows past who items said (events.Open opened) peer granted v s w =
    unopened_said rows past who items said opened v s
early_by rows past who items said (events.Request call) peer granted v s w = absurd w
early_by rows past who items said events.Take peer granted v s w = absurd w
early_by rows past who items said events.Close peer granted v s w = absurd w
early_by rows past who items said (events.Update point value) peer granted v s w = absurd w
early_by rows past who items said (events.Table chooser variant) peer granted v s w = absurd w
early_by rows past who items said (events.Tick now) peer granted v s w = absurd w
early_by rows past who items said (events.Ask asker slot) peer granted v s w = absurd w
early_by rows past who items said (events.Tag device tag) peer granted v s w = absurd w
early_by rows past who items said events.TakeOrders peer granted v s w = absurd w
early_by rows past who items said events.Stop peer granted v s w = absurd w

-- an offer that stands unanswered isn't aborted
early_parted : (rows : CentreRows) (items : List Item) (past : Past) (who : ℕ) (said : List ℕ)
    (event : EventKind) (peer : ℕ) (granted : Initiate) (end : ConnEnd) (v : Talking)
    → (s : Serves rows past who items said (Some event) v)
    → Runs rows items s.told s.turns (askeds.Opening peer granted) v
    → parting_octets v.course end ≡ []
early_parted rows items past who said event peer granted end v s r =
    unparted v.course end
    (ap (λ (p : Position). is_accepted p.standing) (opening_position r))

record SaidEarly (rows : CentreRows) (past : Past) (who : ℕ) (items : List Item)
    (said : List ℕ) (end : ConnEnd) (v : Talking) : Type 0 where
  all : said ≡ link_octets rows past who items
  parted_is : parting_octets v.course end ≡ []

served_never : (v : Talking) → IsServedAt v.stage v.held → is_open_stage v.stage ≡ false → ⊥
served_never v w is = true≢false (sym (ap (λ (x : Stage). is_open_stage x) w.stage_is) ∙ is)

said_early : (rows : CentreRows) (past : Past) (who : ℕ) (items : List Item)
    (said : List ℕ) (event : EventKind) (fault : StepFault) (asked : PendingEvent) (v : Talking)
    → (s : Serves rows past who items said (Some event) v)
    → IsWaiting (progresses.Running asked) (Some event)
    → IsAnswerFor (progresses.Running asked) (Err fault)
    → Runs rows items s.told s.turns asked v → is_open_stage v.stage ≡ false
    → SaidEarly rows past who items said (end_of_fault fault) v
said_early rows past who items said event fault askeds.Nothing v s w f r is =
    absurd (nothing_waits event w)
said_early rows past who items said event fault (askeds.Opening peer granted) v s w f r is =
    record {
      all = early_by rows past who items said event peer granted v s w;
      parted_is = early_parted rows items past who said event peer granted (end_of_fault fault) v s
          r;
    }
said_early rows past who items said event fault (askeds.Requesting invoke) v s w f r is =
    absurd (served_never v (request_served invoke v.stage v.held r.waits) is)
said_early rows past who items said event fault askeds.Taking v s w f r is =
    absurd (served_never v (take_served v.stage v.held r.waits) is)
said_early rows past who items said event fault (askeds.Closing cause) v s w f r is = absurd f

open_says : (stage : Stage) (progress : Progress) (rows : CentreRows) (past : Past) (who : ℕ)
    (items : List Item) (v : Talking) (event : EventKind) (said : List ℕ)
    → (s : Serves rows past who items said (Some event) v) → is_open_stage stage ≡ true
    → SaysBy stage progress rows past who items s.told s.answered said
    → SaysOpen rows past who items s.answered said
open_says stages.Early progress rows past who items v event said s is says = absurd (false≢true is)
open_says (stages.Open peer detail) progress rows past who items v event said s is says = says
open_says (stages.Closed peer) progress rows past who items v event said s is says =
    absurd (false≢true is)

-- ---- together

-- an association is aborted, whatever the refusal
fault_aborts : (fault : StepFault) → aborts_for (end_of_fault fault) ≡ true
fault_aborts faults.Memory = refl
fault_aborts (faults.Stopped place) = refl
fault_aborts (faults.HistoryFull weight limit) = refl
fault_aborts faults.NoAssociation = refl
fault_aborts faults.Already = refl
fault_aborts faults.UnknownName = refl
fault_aborts faults.ClockRange = refl
fault_aborts (faults.Backward last) = refl

-- and its answers none
fault_brings : (fault : StepFault) → IsBrought (end_of_fault fault) None
fault_brings faults.Memory = tt
fault_brings (faults.Stopped place) = refl
fault_brings (faults.HistoryFull weight limit) = refl
fault_brings faults.NoAssociation = tt
fault_brings faults.Already = tt
fault_brings faults.UnknownName = tt
fault_brings faults.ClockRange = tt
fault_brings (faults.Backward last) = tt

-- the node brings the end
fault_ends : (fault : StepFault) → IsNodesEnd (end_of_fault fault)
fault_ends faults.Memory = tt
fault_ends (faults.Stopped place) = tt
fault_ends (faults.HistoryFull weight limit) = tt
fault_ends faults.NoAssociation = tt
fault_ends faults.Already = tt
fault_ends faults.UnknownName = tt
fault_ends faults.ClockRange = tt
fault_ends (faults.Backward last) = tt

-- why it is cut
fault_cuts : (setup : Setup) (past : Past) (who : ℕ) (items : List Item) (event : EventKind)
    (fault : StepFault) → IsRightOutcome setup past who event (Err fault)
    → IsCutFor setup past who items (end_of_fault fault) (refusal_of setup past who event)
fault_cuts setup past who items event faults.Memory right = tt
fault_cuts setup past who items event (faults.Stopped place) right = (place, right)
fault_cuts setup past who items event (faults.HistoryFull weight limit) right = right
fault_cuts setup past who items event faults.NoAssociation right = tt
fault_cuts setup past who items event faults.Already right = tt
fault_cuts setup past who items event faults.UnknownName right = tt
fault_cuts setup past who items event faults.ClockRange right = tt
fault_cuts setup past who items event (faults.Backward last) right = tt

-- all is said, by whether its association was open
all_by : (b : Bool) (setup : Setup) (past after : Past) (who : ℕ) (items : List Item)
    (said : List ℕ) (event : EventKind) (fault : StepFault) (old between : Talking)
    → is_open_stage old.stage ≡ b → IsRightOutcome setup past who event (Err fault)
    → IsLeft (end_of_fault fault) old between
    → Serves setup.centre past who items said (Some event) old → after ≡ with_closed who past
    → said ++ (left_said old.stage old.course (end_of_fault fault)
    ++ closing_said between (end_of_fault fault))
    ≡ link_octets setup.centre after who items
all_by true setup past after who items said event fault old between is right left s closed =
    let rows = setup.centre in
    let end = end_of_fault fault in
    let l = stands_by (is_open_stage old.stage) end old between refl left in
    let says = open_says old.stage old.progress rows past who items old event said s is s.says in
    let leaving : is_leaving between.progress ≡ true =
    left_goes end old between left ∙ is in
    let there = seat_open rows past who items said event old s ∙ is in
    ap (λ (b : Bool). said ++ ((if b then [] else parting_octets old.course end)
    ++ closing_said between end)) is
    ∙ ap (λ (b : Bool). said ++ (if b then parting_octets between.course end else [])) leaving
    ∙ ap (λ (x : Course). said ++ parting_octets x end) (l.course is)
    ∙ abort_said rows past who items said event end old (fault_aborts fault) s
    (refused setup past who items said event fault old s right is) says
    ∙ sym (ap (λ (p : Past). link_octets rows p who items) (closed
    ∙ ap (λ (b : Bool). if b then with_event who events.Close past else past) there))
all_by false setup past after who items said event fault old between is right left s closed =
    let rows = setup.centre in
    let end = end_of_fault fault in
    let found = waiting_of old.progress event s.waits in
    let e = said_early rows past who items said event fault found.0 old s
    (subst (λ (x : Progress). IsWaiting x (Some event)) found.1 s.waits)
    (subst (λ (x : Progress). IsAnswerFor x (Err fault)) found.1
    (serving_refused setup past who items said event fault old s right))
    (subst (λ (x : Progress). GoesBy x rows items s.told s.turns old) found.1 s.stands.goes) is in
    let leaving : is_leaving between.progress ≡ false =
    left_goes end old between left ∙ is in
    let there = seat_open rows past who items said event old s ∙ is in
    ap (λ (b : Bool). said ++ ((if b then [] else parting_octets old.course end)
    ++ closing_said between end)) is
    ∙ ap (λ (os : List ℕ). said ++ (os ++ closing_said between end)) e.parted_is
    ∙ ap (λ (b : Bool). said ++ (if b then parting_octets between.course end else [])) leaving
    ∙ append-nil said ∙ e.all
    ∙ sym (ap (λ (p : Past). link_octets rows p who items) (closed
    ∙ ap (λ (b : Bool). if b then with_event who events.Close past else past) there))

-- what its close comes to, whatever the link gave
abbrev pub ClosesSo : NodeState → NodeState → ℕ → Talking → Talking → Type 0
ClosesSo before after who old new = (whole : Bool) (end : ConnEnd) (standing : EndState)
    (items : List Item) (said : List ℕ)
    → HasLeft whole end standing before.setup.centre (reverse before.history) who items said None old
    → ClosesLeft whole end standing before.setup.centre (reverse before.history) who items said old
    (reverse after.history) new

-- the event was refused, the connection was told so, and then closed
pub refused_cut : (before middle after : NodeState) (who : ℕ) (items : List Item)
    (said : List ℕ) (event : EventKind) (fault : StepFault) (old between new : Talking)
    → middle ≡ before → IsRightOutcome before.setup (reverse before.history) who event (Err fault)
    → KeepsPlace old between → IsLeft (end_of_fault fault) old between
    → ClosesSo middle after who between new
    → Serves before.setup.centre (reverse before.history) who items said (Some event) old
    → CutsOff before.setup (reverse before.history) who items said old None (reverse after.history)
    new
refused_cut before middle after who items said event fault old between new same right stays left
    closes s =
    let setup = before.setup in
    let rows = setup.centre in
    let past = reverse before.history in
    let end = end_of_fault fault in
    let more = left_said old.stage old.course end in
    let closing = closing_said between end in
    let closes_so : ClosesSo before after who between new =
    subst (λ (n : NodeState). ClosesSo n after who between new) same closes in
    let c = closes_so true end old.course.standing items (said ++ more)
    (refused_left setup past who items said event fault old between right stays left s) in
    let l = stands_by (is_open_stage old.stage) end old between refl left in
    let n = next_asked rows past who items said event old s in (
      record {
        adds = record {
          added = more ++ closing;
          pending = c.pending ∙ ap (λ (os : List ℕ). os ++ closing) l.pending
              ∙ append_assoc (pending_of old) more closing;
        };
        end = end;
        by_node = fault_ends fault;
        ended = c.ended;
        others = event ∷ n.0;
        asks_are = n.1;
        cause = fault_cuts setup past who items event fault right;
        after_is = c.after_is;
        none_open = none_left true end old.course.standing rows (reverse after.history) who items
            ((said ++ more) ++ closing) new c.left c.ended;
        said_is = subst (λ (os : List ℕ). IsSaidByEnd items (Some end) os
            (link_octets rows (reverse after.history) who items))
            (sym (all_by (is_open_stage old.stage) setup past (reverse after.history) who items said
            event fault old between refl right left s c.after_is))
            (said_whole items (Some end) (link_octets rows (reverse after.history) who items));
      },
      fault_brings fault,
    )

-- what its close is asked of
pub parting_on : (before middle : NodeState) (who : ℕ) (event : EventKind) (fault : StepFault)
    (old between : Talking) → middle ≡ before
    → IsRightOutcome before.setup (reverse before.history) who event (Err fault)
    → KeepsPlace old between → IsLeft (end_of_fault fault) old between
    → IsAsking before.setup.centre (reverse before.history) who event old
    → IsParting middle.setup.centre (reverse middle.history) who between
parting_on before middle who event fault old between same right stays left x =
    subst (λ (n : NodeState). IsParting n.setup.centre (reverse n.history) who between) (sym same) (
      x.0,
      x.1 ++ left_said old.stage old.course (end_of_fault fault),
      true,
      end_of_fault fault,
      old.course.standing,
      refused_left before.setup (reverse before.history) who x.0 x.1 event fault old between right
          stays left x.2,
    )
