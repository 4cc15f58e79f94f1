-- What comes of an event that a connection wants, by what the node and the connection did.
use Rattle.std.proofs.Common.{◌≡◌, ℕ, Bool, true, false, List, [], ◌++◌, reverse}
use Rattle.std.proofs.lemmas.List.{append-nil}
use Rattle.std.proofs.Common.{Option}
use Rattle.std.proofs.Common.{Some, None, Result, Ok, Err, is_some, refl, sym, ap, subst, ◌∙◌}
use Rattle.std.specs.Prelude.{MatchBool, unwrap_or, if◌then◌else◌, OnOk, IsOk}
use Rattle.std.specs.declared.alloc.AllocError.{AllocError}
use Rattle.std.proofs.lemmas.Bool.{false≢true}
use Rattle.stack_assoc.specs.Arrivals.{Arrival}
use Rattle.stack_assoc.specs.Courses.{Course}
use Rattle.stack_assoc.specs.declared.end_state.EndState.{EndState}
use Rattle.bilateral.specs.Rows.{CentreRows}
use Rattle.sbo_device.specs.declared.key.Key.{Key}
use Rattle.tase_views.specs.Setup.{Setup}
use Rattle.tase_views.specs.History.{Past, association_in}
use Rattle.tase_views.specs.Outcomes.{IsRightOutcome}
use Rattle.tase_views.specs.Outcomes.{answer_by, answer_of}
use Rattle.tase_views.specs.declared.event.EventKind.{EventKind}
use Rattle.tase_views.specs.declared.event.EventKind.TheVariants as events
use Rattle.tase_views.specs.declared.reply.Answer.{Answer}
use Rattle.tase_views.specs.declared.reply.Answer.TheVariants as answers
use Rattle.tase_views.specs.declared.fault.StepFault.{StepFault}
use Rattle.node_core.specs.NodeState.{NodeState, with_entry}
use Rattle.node_core.proofs.OfNode.Outcomes.{reverse_push}
use Rattle.tase_conn.specs.Map.Inputs.{Item}
use Rattle.tase_conn.specs.Map.Turns.{Turn}
use Rattle.tase_conn.specs.declared.stage.PendingEvent.{PendingEvent}
use Rattle.tase_conn.specs.declared.stage.PendingEvent.TheVariants as askeds
use Rattle.tase_conn.specs.declared.stage.ConnEnd.{ConnEnd}
use Rattle.tase_conn.specs.declared.stage.Coming.{Coming}
use Rattle.tase_conn.specs.declared.stage.Stage.{Stage}
use Rattle.tase_conn.specs.declared.stage.Stage.TheVariants as stages
use Rattle.tase_conn.specs.declared.stage.Progress.{Progress}
use Rattle.tase_conn.specs.declared.stage.Progress.TheVariants as progresses
use Rattle.tase_conn.specs.Talking.{Talking, pending_of, is_open_stage, is_running, IsFree}
use Rattle.tase_conn.specs.Talking.{is_leaving}
use Rattle.tase_conn.specs.Places.{ConnStandsAt, IsPlaced, GoesBy, Runs, IsAskedAt, KeepsPlace}
use Rattle.tase_conn.specs.Wanting.{Wants, WantsBy, WantsSo, WantsClose, IsLeaving}
use Rattle.tase_conn.specs.Wanting.{progress_closing}
use Rattle.tase_conn.specs.Leaving.{IsLeft, Parts}
use Rattle.tase_conn.specs.Answering.{told_said, progress_told, IsAnswerFor, TellsAnswer}
use Rattle.tase_conn.specs.Answering.{parting_octets, end_of_fault}
use Rattle.conn_service.specs.Courses.Serving.{Serves, SaysBy, IsWaiting}
use Rattle.tase_conn.specs.Map.Sent.{with_event}
use Rattle.conn_service.specs.Courses.Cutting.{HasLeft, IsClosingFor, LeftBy, left_said}
use Rattle.conn_service.proofs.OfCourses.Left.{refused_leaves, closing_leaves, closed_leaves}
use Rattle.conn_service.proofs.OfCourses.Left.{stands_by}
use Rattle.conn_service.proofs.OfCourses.Seats.{none_open}
use Rattle.conn_service.proofs.OfCourses.Served.{never_refused}
use Rattle.conn_service.proofs.OfCourses.Wanted.{waiting_of}
use Rattle.conn_service.specs.Attending.{IsServed, IsAsking, IsParting}
use Rattle.conn_service.specs.Attending.{ClosesLeft, closing_said, AsksClose, IsAskingClose}
use Rattle.conn_service.proofs.Closed.{seat_left}
use Rattle.conn_service.proofs.Told.{waits_free, closing_free, right_told, waiting_refused}
use Rattle.conn_service.proofs.Told.{nothing_waits}

-- ---- what a connection stands for

pub served_free : (rows : CentreRows) (past : Past) (who : ℕ) (v : Talking)
    → IsServed rows past who v → IsFree v.progress
served_free rows past who v s = waits_free v.progress s.2.waits

pub placed_of : {rows : CentreRows} {items : List Item} {told : List Arrival} {turns : List Turn}
    {v : Talking} → ConnStandsAt rows items told turns v → IsPlaced v
placed_of {rows} {items} {told} {turns} s =
    record { rows = rows; items = items; told = told; turns = turns; stands = s }

pub served_placed : (rows : CentreRows) (past : Past) (who : ℕ) (v : Talking)
    → IsServed rows past who v → IsPlaced v
served_placed rows past who v s = placed_of s.2.stands

pub asking_placed : (rows : CentreRows) (past : Past) (who : ℕ) (event : EventKind) (v : Talking)
    → IsAsking rows past who event v → IsPlaced v
asking_placed rows past who event v s = placed_of s.2.stands

pub parting_free : (rows : CentreRows) (past : Past) (who : ℕ) (v : Talking)
    → IsParting rows past who v → IsFree v.progress
parting_free rows past who v p = closing_free v.progress p.3 p.5.waits

pub parting_placed : (rows : CentreRows) (past : Past) (who : ℕ) (v : Talking)
    → IsParting rows past who v → IsPlaced v
parting_placed rows past who v p = placed_of p.5.stands

-- the answer to the event that waits may be told
pub asking_told : (rows : Setup) (past : Past) (who : ℕ) (event : EventKind) (answer : Answer)
    (v : Talking) → IsAsking rows.centre past who event v
    → IsRightOutcome rows past who event (Ok answer) → IsAnswerFor v.progress (Ok answer)
asking_told setup past who event answer v s right =
    let n = never_refused setup.centre past who s.0 s.1 event v s.2 in
    right_told setup past who event v.progress answer s.2.waits n.0 right

-- and its refusal
pub serving_refused : (setup : Setup) (past : Past) (who : ℕ) (items : List Item)
    (said : List ℕ) (event : EventKind) (fault : StepFault) (v : Talking)
    → Serves setup.centre past who items said (Some event) v
    → IsRightOutcome setup past who event (Err fault) → IsAnswerFor v.progress (Err fault)
serving_refused setup past who items said event fault v s right =
    let n = never_refused setup.centre past who items said event v s in
    waiting_refused setup past who event fault v.progress s.waits n.0 n.1 right

pub asking_refused : (setup : Setup) (past : Past) (who : ℕ) (event : EventKind)
    (fault : StepFault) (v : Talking) → IsAsking setup.centre past who event v
    → IsRightOutcome setup past who event (Err fault) → IsAnswerFor v.progress (Err fault)
asking_refused setup past who event fault v s right =
    serving_refused setup past who s.0 s.1 event fault v s.2 right

-- ---- the history

pub grown : (before after : NodeState) (who : ℕ) (event : EventKind)
    → after ≡ with_entry before who event
    → reverse after.history ≡ with_event who event (reverse before.history)
grown before after who event is = ap (λ (n : NodeState). reverse n.history) is
    ∙ reverse_push before.history (record { who = who; event = event })

pub same_past : (before after : NodeState) → after ≡ before
    → reverse after.history ≡ reverse before.history
same_past before after is = ap (λ (n : NodeState). reverse n.history) is

-- ---- an event that was answered

-- what holds where no memory was wanting
pub told_ok : (P : Type 0) (result : Result (Unit {0}) AllocError) → IsOk result → OnOk result P → P
told_ok P (Ok told) is p = p
told_ok P (Err error) is p = absurd (false≢true is)

-- ---- a connection that is left

left_by : (b : Bool) (end : ConnEnd) (old new : Talking)
    → MatchBool b (new ≡ record old { progress = progresses.Leaving end false })
    (Parts (progresses.Cut end) (parting_octets old.course end) old new) → is_leaving new.progress ≡ b
left_by true end old new l = ap (λ (v : Talking). is_leaving v.progress) l
left_by false end old new l = ap (λ (v : Talking). is_leaving v.progress) l.is

pub left_goes : (end : ConnEnd) (old new : Talking) → IsLeft end old new
    → is_leaving new.progress ≡ is_open_stage old.stage
left_goes end old new l = left_by (is_open_stage old.stage) end old new l

closed_asks : (peer : ℕ) (asked : PendingEvent) (held : Option Coming) (event : EventKind)
    → IsAskedAt asked (stages.Closed peer) held
    → IsWaiting (progresses.Running asked) (Some event) → ⊥
closed_asks peer askeds.Nothing held event a w = nothing_waits event w
closed_asks peer (askeds.Opening opened granted) held event a w = absurd a
closed_asks peer (askeds.Requesting invoke) held event a w = absurd a
closed_asks peer askeds.Taking held event a w = absurd a
closed_asks peer (askeds.Closing cause) held event a w = absurd a

-- where an event waits, the seat has an association exactly where it is open
seat_by : (stage : Stage) (asked : PendingEvent) (held : Option Coming) (event : EventKind)
    (progress : Progress) (rows : CentreRows) (past : Past) (who : ℕ) (items : List Item)
    (told : List Arrival) (answered : List Turn) (said : List ℕ) → IsAskedAt asked stage held
    → IsWaiting (progresses.Running asked) (Some event)
    → SaysBy stage progress rows past who items told answered said
    → is_some (association_in past who) ≡ is_open_stage stage
seat_by stages.Early asked held event progress rows past who items told answered said a w says =
    ap (λ (k : Option Key). is_some k) (none_open past who says.0)
seat_by (stages.Open peer detail) asked held event progress rows past who items told answered said
    a w says = ap (λ (k : Option Key). is_some k) says.seat
seat_by (stages.Closed peer) asked held event progress rows past who items told answered said a w
    says = absurd (closed_asks peer asked held event a w)

pub seat_open : (rows : CentreRows) (past : Past) (who : ℕ) (items : List Item) (said : List ℕ)
    (event : EventKind) (v : Talking) → Serves rows past who items said (Some event) v
    → is_some (association_in past who) ≡ is_open_stage v.stage
seat_open rows past who items said event v s =
    let found = waiting_of v.progress event s.waits in
    let r : Runs rows items s.told s.turns found.0 v =
    subst (λ (x : Progress). GoesBy x rows items s.told s.turns v) found.1 s.stands.goes in
    seat_by v.stage found.0 v.held event v.progress rows past who items s.told s.answered said
    r.waits (subst (λ (x : Progress). IsWaiting x (Some event)) found.1 s.waits) s.says

-- an event was refused, and what is said then
pub refused_left : (setup : Setup) (past : Past) (who : ℕ) (items : List Item)
    (said : List ℕ) (event : EventKind) (fault : StepFault) (old new : Talking)
    → IsRightOutcome setup past who event (Err fault)
    → KeepsPlace old new → IsLeft (end_of_fault fault) old new
    → Serves setup.centre past who items said (Some event) old
    → HasLeft true (end_of_fault fault) old.course.standing setup.centre past who items
    (said ++ left_said old.stage old.course (end_of_fault fault)) None new
refused_left setup past who items said event fault old new right stays left s =
    refused_leaves setup.centre past who items said
    (left_said old.stage old.course (end_of_fault fault)) event fault old new s
    (serving_refused setup past who items said event fault old s right)
    (stays setup.centre items s.told s.turns s.stands) left
    (stands_by (is_open_stage old.stage) (end_of_fault fault) old new refl left).pending

-- ---- the close of a connection that was left

some_close : (event : EventKind) → Some event ≡ Some events.Close → event ≡ events.Close
some_close event e = ap (λ (o : Option EventKind). unwrap_or o events.Stop) e

some_none : {event : EventKind} → Some event ≡ None → ⊥
some_none e = absurd cc

want_by : (p : Progress) (left : ConnEnd) (rows : CentreRows) (items : List Item)
    (told : List Arrival) (turns : List Turn) (event : EventKind) (old new : Talking)
    → IsClosingFor p None left → WantsBy p rows items told turns (Some event) old new
    → IsLeaving p × (WantsClose (Some event) old new × ConnStandsAt rows items told turns new)
want_by (progresses.Running asked) left rows items told turns event old new c w = absurd c
want_by progresses.Refused left rows items told turns event old new c w = absurd c
want_by (progresses.Leaving end true) left rows items told turns event old new c w = absurd c
want_by (progresses.Leaving end false) left rows items told turns event old new c w = (tt, w)
want_by (progresses.Ended end) left rows items told turns event old new c w = absurd c
want_by (progresses.Cut end) left rows items told turns event old new c w =
    absurd (some_none w.none)

-- the progress of a connection whose close is asked
asked_by : (p : Progress) (left : ConnEnd) → IsLeaving p → IsClosingFor p None left
    → (is_leaving p ≡ true) × (p ≡ progresses.Leaving left false)
asked_by (progresses.Running asked) left l c = absurd l
asked_by progresses.Refused left l c = absurd l
asked_by (progresses.Leaving end true) left l c = absurd c
asked_by (progresses.Leaving end false) left l c =
    (refl, ap (λ (e : ConnEnd). progresses.Leaving e false) c)
asked_by (progresses.Ended end) left l c = absurd l
asked_by (progresses.Cut end) left l c = absurd l

left_seat : (stage : Stage) (whole : Bool) (end : ConnEnd) (standing : EndState) (course : Course)
    (rows : CentreRows) (past : Past) (who : ℕ) (items : List Item) (answered : List Turn)
    (said : List ℕ) → is_open_stage stage ≡ true
    → LeftBy whole stage end standing course rows past who items answered said
    → is_some (association_in past who) ≡ true
left_seat stages.Early whole end standing course rows past who items answered said o l =
    absurd (false≢true o)
left_seat (stages.Open peer detail) whole end standing course rows past who items answered said o
    l = ap (λ (k : Option Key). is_some k) l.seat
left_seat (stages.Closed peer) whole end standing course rows past who items answered said o l =
    absurd (false≢true o)

pub wants_close : (whole : Bool) (end : ConnEnd) (standing : EndState) (rows : CentreRows)
    (past : Past) (who : ℕ) (items : List Item) (said : List ℕ) (event : EventKind)
    (old new : Talking) → (h : HasLeft whole end standing rows past who items said None old)
    → Wants rows items h.told h.turns (Some event) old new
    → AsksClose whole end standing rows past who items said event old new
wants_close whole end standing rows past who items said event old new h w =
    let l = want_by old.progress end rows items h.told h.turns event old new h.waits w in
    let a = asked_by old.progress end l.0 h.waits in
    let is : new ≡ record old { progress = progresses.Leaving end true } =
    l.1.0.is ∙ ap (λ (p : Progress). progress_closing old p) a.1 in
    record {
      event_is = some_close event l.1.0.event_is;
      leaving = a.0;
      progress = ap (λ (v : Talking). v.progress) is;
      pending = ap (λ (v : Talking). pending_of v) is;
      course = ap (λ (v : Talking). v.course) is;
      seat = left_seat old.stage whole end standing old.course rows past who items h.answered said
          (h.owes ∙ a.0) h.says;
      left = closing_leaves rows past who items said (Some event) whole end standing old new h l.0
          l.1;
    }

-- whatever the link gave
pub parting_wants : (rows : CentreRows) (past : Past) (who : ℕ) (event : EventKind)
    (old new : Talking) → IsParting rows past who old
    → WantsSo (Some event) old new → IsAskingClose rows past who event new
parting_wants rows past who event old new p wants =
    let h = p.5 in (
      p.2,
      p.3,
      p.4,
      p.0,
      p.1,
      old,
      wants_close p.2 p.3 p.4 rows past who p.0 p.1 event old new h
          (wants rows p.0 h.told h.turns h.stands),
    )

-- no memory is taken
pub parting_over : (p : Progress) (left : ConnEnd) → IsClosingFor p None left
    → is_running p ≡ false
parting_over (progresses.Running asked) left c = absurd c
parting_over progresses.Refused left c = refl
parting_over (progresses.Leaving end asked) left c = refl
parting_over (progresses.Ended end) left c = refl
parting_over (progresses.Cut end) left c = refl

pub close_leaves : (v : Talking) (end : ConnEnd) → v.progress ≡ progresses.Leaving end true
    → IsLeaving v.progress
close_leaves v end e = subst (λ (p : Progress). IsLeaving p) (sym e) tt

closed_answer : (setup : Setup) (past : Past) (who : ℕ) (found : Option Key)
    → association_in past who ≡ found → is_some found ≡ true
    → answer_of setup past who events.Close ≡ answers.Closed
closed_answer setup past who None f there = absurd (false≢true there)
closed_answer setup past who (Some key) f there =
    ap (λ (k : Option Key). answer_by setup.centre past events.Close k) f

pub close_told : (setup : Setup) (past : Past) (who : ℕ) (event : EventKind) (answer : Answer)
    (end : ConnEnd) (v : Talking) → event ≡ events.Close
    → is_some (association_in past who) ≡ true → v.progress ≡ progresses.Leaving end true
    → IsRightOutcome setup past who event (Ok answer) → IsAnswerFor v.progress (Ok answer)
close_told setup past who event answer end v is there progress right =
    let answer_is : answer ≡ answers.Closed = right.1
    ∙ ap (λ (e : EventKind). answer_of setup past who e) is
    ∙ closed_answer setup past who (association_in past who) refl there in
    subst (λ (p : Progress). IsAnswerFor p (Ok answer)) (sym progress)
    (subst (λ (a : Answer). IsAnswerFor (progresses.Leaving end true) (Ok a)) (sym answer_is) tt)

pub close_placed : {whole : Bool} {end : ConnEnd} {standing : EndState} {rows : CentreRows}
    {past : Past} {who : ℕ} {items : List Item} {said : List ℕ} {event : EventKind}
    {old new : Talking} → AsksClose whole end standing rows past who items said event old new
    → IsPlaced new
close_placed a = placed_of a.left.stands

-- its close was asked, and taken
pub closed_on : (before after : NodeState) (whole : Bool) (end : ConnEnd) (standing : EndState)
    (who : ℕ) (items : List Item) (said : List ℕ) (event : EventKind) (answer : Answer)
    (old between new : Talking)
    → AsksClose whole end standing before.setup.centre (reverse before.history) who items said event
    old between → after ≡ with_entry before who event → KeepsPlace between new
    → TellsAnswer (Ok answer) between new
    → ClosesLeft whole end standing before.setup.centre (reverse before.history) who items said old
    (reverse after.history) new
closed_on before after whole end standing who items said event answer old between new c is stays
    tells =
    let rows = before.setup.centre in
    let past = reverse before.history in
    let more = told_said between.progress between.stage between.course (Ok answer) in
    let g : reverse after.history ≡ with_event who event past = grown before after who event is in
    let said_is : more ≡ closing_said old end =
    ap (λ (p : Progress). told_said p between.stage between.course (Ok answer)) c.progress
    ∙ ap (λ (k : Course). parting_octets k end) c.course
    ∙ ap (λ (b : Bool). if b then parting_octets old.course end else []) (sym c.leaving) in
    let left : HasLeft whole end standing rows (with_event who event past) who items
    (said ++ more) None new =
    closed_leaves rows past who items said event answer whole end standing between new c.left
    (record {
      stands = stays rows items c.left.told c.left.turns c.left.stands;
      progress = tells.progress;
      stage = tells.stage;
      course = tells.course;
    }) in
    record {
      after_is = g ∙ ap (λ (e : EventKind). with_event who e past) c.event_is
          ∙ ap (λ (b : Bool). if b then with_event who events.Close past else past) (sym c.seat);
      pending = tells.said ∙ ap (λ (os : List ℕ). os ++ more) c.pending
          ∙ ap (λ (os : List ℕ). pending_of old ++ os) said_is;
      left = subst (λ (os : List ℕ). HasLeft whole end standing rows (reverse after.history) who
          items (said ++ os) None new) said_is
          (subst (λ (p : Past). HasLeft whole end standing rows p who items (said ++ more) None new)
          (sym g) left);
      ended = tells.progress
          ∙ ap (λ (p : Progress). progress_told p between.stage (Ok answer)) c.progress;
    }

none_event : None ≡ Some events.Close → ⊥
none_event e = absurd cc

-- where it was cut at once nothing is wanted
none_by : (p : Progress) (left : ConnEnd) (rows : CentreRows) (items : List Item)
    (told : List Arrival) (turns : List Turn) (old new : Talking) → IsClosingFor p None left
    → WantsBy p rows items told turns None old new
    → (is_leaving p ≡ false) × (p ≡ progresses.Cut left) × (new ≡ old)
none_by (progresses.Running asked) left rows items told turns old new c w = absurd c
none_by progresses.Refused left rows items told turns old new c w = absurd c
none_by (progresses.Leaving end true) left rows items told turns old new c w = absurd c
none_by (progresses.Leaving end false) left rows items told turns old new c w =
    absurd (none_event w.0.event_is)
none_by (progresses.Ended end) left rows items told turns old new c w = absurd c
none_by (progresses.Cut end) left rows items told turns old new c w =
    (refl, ap (λ (e : ConnEnd). progresses.Cut e) c, w.is)

pub uncut_on : (whole : Bool) (end : ConnEnd) (standing : EndState) (rows : CentreRows)
    (past after : Past) (who : ℕ) (items : List Item) (said : List ℕ) (old new : Talking)
    → after ≡ past → (h : HasLeft whole end standing rows past who items said None old)
    → Wants rows items h.told h.turns None old new
    → ClosesLeft whole end standing rows past who items said old after new
uncut_on whole end standing rows past after who items said old new is h w =
    let n = none_by old.progress end rows items h.told h.turns old new h.waits w in
    let none : closing_said old end ≡ [] =
    ap (λ (b : Bool). if b then parting_octets old.course end else []) n.0 in
    let seat : is_some (association_in past who) ≡ false =
    seat_left whole end standing rows past who items said None old h ∙ n.0 in
    record {
      after_is = is
          ∙ ap (λ (b : Bool). if b then with_event who events.Close past else past) (sym seat);
      pending = ap (λ (v : Talking). pending_of v) n.2 ∙ sym (append-nil (pending_of old))
          ∙ ap (λ (os : List ℕ). pending_of old ++ os) (sym none);
      left = subst (λ (os : List ℕ). HasLeft whole end standing rows after who items os None new)
          (sym (append-nil said) ∙ ap (λ (os : List ℕ). said ++ os) (sym none))
          (subst (λ (p : Past). HasLeft whole end standing rows p who items said None new) (sym is)
          (subst (λ (v : Talking). HasLeft whole end standing rows past who items said None v)
          (sym n.2) h));
      ended = ap (λ (v : Talking). v.progress) n.2 ∙ n.1;
    }
