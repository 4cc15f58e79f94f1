-- A connection whose event was answered serves on.
use Rattle.std.proofs.Common.{◌≡◌, ℕ, ℤ, Bool, true, false, List, [], ◌∷◌, ◌++◌, Option, Some, None}
use Rattle.std.proofs.Common.{refl, sym, ap, subst, ◌∙◌, reverse}
use Rattle.std.specs.Prelude.{Ok, is_some, option_map, unsigned_abs, MatchOption}
use Rattle.std.specs.List.{list_any}
use Rattle.std.proofs.lemmas.List.{append-nil, reverse-append}
use Rattle.mms_services.specs.declared.initiate.Initiate.{Initiate}
use Rattle.tpkt_cotp.specs.Written.{wire}
use Rattle.stack_assoc.specs.Wire.Tsdus.{accept_tsdu}
use Rattle.stack_assoc.specs.declared.messages.fault.StackFault.{StackFault}
use Rattle.stack_assoc.specs.declared.messages.heard.Connecting.{Connecting}
use Rattle.stack_assoc.specs.Arrivals.{Arrival, called, first_in, connect_in}
use Rattle.stack_assoc.specs.Courses.{Course, CourseStands, is_accepted}
use Rattle.bilateral.specs.Rows.{CentreRows, place_of_title}
use Rattle.sbo_device.specs.declared.key.Key.{Key}
use Rattle.tase_views.specs.declared.event.EventKind.{EventKind}
use Rattle.tase_views.specs.declared.event.EventKind.TheVariants as events
use Rattle.tase_views.specs.declared.reply.Answer.{Answer}
use Rattle.tase_views.specs.declared.reply.Answer.TheVariants as answers
use Rattle.tase_views.specs.History.{Past, next_key, key_at}
use Rattle.tase_views.specs.Outcomes.{answer_by, IsRightOutcome}
use Rattle.tase_views.specs.OwnTables.{own_tables}
use Rattle.tase_views.specs.View.{view_of}
use Rattle.tase_views.specs.Answers.{reply_to}
use Rattle.tase_views.specs.Reports.{reports_pending}
use Rattle.tase_views.specs.Setup.{Setup}
use Rattle.tase_conn.specs.Map.Inputs.{Item, text_given}
use Rattle.tase_conn.specs.Map.Turns.{Turn, offers, asks, pauses, turns_of}
use Rattle.tase_conn.specs.Map.Asks.{is_last, is_open_behind, event_if, open_of, asks_at, asks_behind}
use Rattle.tase_conn.specs.Map.Sent.{events_by, with_event}
use Rattle.tase_conn.specs.Map.Out.{first_too_long, detail_of}
use Rattle.tase_conn.specs.Map.Linked.{detail_given}
use Rattle.tase_conn.specs.declared.stage.PendingEvent.{PendingEvent}
use Rattle.tase_conn.specs.declared.stage.PendingEvent.TheVariants as askeds
use Rattle.tase_conn.specs.declared.stage.Cause.{Cause}
use Rattle.tase_conn.specs.declared.stage.Cause.TheVariants as causes
use Rattle.tase_conn.specs.declared.stage.Behind.{Behind}
use Rattle.tase_conn.specs.declared.stage.Behind.TheVariants as behinds
use Rattle.tase_conn.specs.declared.stage.Coming.{Coming}
use Rattle.tase_conn.specs.declared.stage.Progress.{Progress}
use Rattle.tase_conn.specs.declared.stage.Progress.TheVariants as progresses
use Rattle.tase_conn.specs.declared.stage.Stage.{Stage}
use Rattle.tase_conn.specs.declared.stage.Stage.TheVariants as stages
use Rattle.tase_conn.specs.declared.stage.ConnEnd.{ConnEnd}
use Rattle.tase_conn.specs.declared.stage.ConnEnd.TheVariants as conn_ends
use Rattle.tase_conn.specs.Talking.{Talking, is_open_stage}
use Rattle.tase_conn.specs.Places.{Runs, GoesBy, EndsWithTurn, IsAskedAt, turn_for}
use Rattle.tase_conn.specs.Places.{Position, IsAgreed, BeginsTurns, IsDone, IsPassed, ReadsBy}
use Rattle.tase_conn.specs.Places.{turns_held}
use Rattle.tase_conn.proofs.Known.{served_position, asked_connected}
use Rattle.tase_conn.specs.Answering.{told_said, stage_told, progress_told, progress_by}
use Rattle.tase_conn.specs.Answering.{detail_in, progress_reported}
use Rattle.tase_conn.specs.Answering.{progress_closed, answer_said, closed_said, stage_closed}
use Rattle.tase_conn.proofs.OfMap.AskedOn.{asks_join}
use Rattle.conn_service.specs.Courses.Serving.{AsksLast, IsWaiting, SaysOpen, SaysClosed, SaysBy}
use Rattle.conn_service.specs.Courses.Serving.{Serves, HasTold}
use Rattle.conn_service.specs.Courses.AnswerEnd.{end_answered}
use Rattle.conn_service.proofs.OfCourses.Seats.{event_here, says_at}
use Rattle.conn_service.proofs.OfCourses.Steps.{answer_octets, opened_says, requested_says, taken_says}
use Rattle.conn_service.proofs.OfCourses.Steps.{closed_says, reports_octets}
use Rattle.conn_service.proofs.OfCourses.Texts.{fixed_over}
use Rattle.conn_service.proofs.OfCourses.TurnLists.{same_ends}

-- ---- what was asked

-- the turn that asks for the event that waits
pub record AskedTurn (rows : CentreRows) (answered turns : List Turn) (event : EventKind)
    (last : Turn) : Type 0 where
  pub is : turns ≡ answered ++ last ∷ []
  pub goes : list_any (is_last rows) answered ≡ false
  pub asks : asks_at rows answered last ≡ event ∷ []

pub asked_turn : (rows : CentreRows) (answered turns : List Turn) (event : EventKind)
    (last : Turn) → AsksLast rows event answered turns → EndsWithTurn rows turns last
    → AskedTurn rows answered turns event last
asked_turn rows answered turns event last a e =
    let s = same_ends answered e.front a.last last (sym a.is ∙ e.is) in
    record {
      is = a.is ∙ ap (λ t. answered ++ t ∷ []) s.1;
      goes = ap (λ (ts : List Turn). list_any (is_last rows) ts) s.0 ∙ e.goes;
      asks = ap (λ t. asks_at rows answered t) (sym s.1) ∙ a.asks;
    }

first_event : (a b : EventKind) (xs ys : List EventKind) → a ∷ xs ≡ b ∷ ys → a ≡ b
first_event a b xs ys e = ap (λ (l : List EventKind). first_or_a l) e
  where
    first_or_a : List EventKind → EventKind
    first_or_a [] = a
    first_or_a (z ∷ zs) = z

if_event : (b : Bool) (one event : EventKind) → event_if b one ≡ event ∷ [] → event ≡ one
if_event true one event e = sym (first_event one event [] [] e)
if_event false one event e = absurd cc

close_event : (rows : CentreRows) (answered : List Turn) (cause : Cause) (event : EventKind)
    → asks_at rows answered (turn_for cause) ≡ event ∷ [] → event ≡ events.Close
close_event rows answered causes.Concluded event e =
    if_event (is_open_behind rows answered) events.Close event e
close_event rows answered causes.Released event e =
    if_event (is_open_behind rows answered) events.Close event e
close_event rows answered causes.Aborted event e =
    if_event (is_open_behind rows answered) events.Close event e
close_event rows answered causes.LinkEnd event e =
    if_event (is_open_behind rows answered) events.Close event e
close_event rows answered (causes.Broken fault) event e =
    if_event (is_open_behind rows answered) events.Close event e

open_event : (rows : CentreRows) (title : Option (List ℕ)) (peer : ℕ) (event : EventKind)
    → place_of_title rows title ≡ Some peer
    → open_of (place_of_title rows title) ≡ event ∷ [] → event ≡ events.Open peer
open_event rows title peer event p e =
    sym (first_event (events.Open peer) event [] []
    (ap (λ (found : Option ℕ). open_of found) (sym p) ∙ e))

-- ---- where it stands

pub opens_early : (peer : ℕ) (offered : Initiate) (stage : Stage) (held : Option Coming)
    → IsAskedAt (askeds.Opening peer offered) stage held → stage ≡ stages.Early
opens_early peer offered stages.Early None w = refl
opens_early peer offered stages.Early (Some coming) w = absurd w
opens_early peer offered (stages.Open other detail) held w = absurd w
opens_early peer offered (stages.Closed other) held w = absurd w

-- each other event waits while the association is open
pub record IsServedAt (stage : Stage) (held : Option Coming) : Type 0 where
  pub peer : ℕ
  pub detail : ℤ
  pub stage_is : stage ≡ stages.Open peer detail
  pub held_is : held ≡ None

pub request_served : (invoke : ℕ) (stage : Stage) (held : Option Coming)
    → IsAskedAt (askeds.Requesting invoke) stage held → IsServedAt stage held
request_served invoke stages.Early held w = absurd w
request_served invoke (stages.Open peer detail) None w =
    record { peer = peer; detail = detail; stage_is = refl; held_is = refl }
request_served invoke (stages.Open peer detail) (Some coming) w = absurd w
request_served invoke (stages.Closed peer) held w = absurd w

pub take_served : (stage : Stage) (held : Option Coming) → IsAskedAt askeds.Taking stage held
    → IsServedAt stage held
take_served stages.Early held w = absurd w
take_served (stages.Open peer detail) None w =
    record { peer = peer; detail = detail; stage_is = refl; held_is = refl }
take_served (stages.Open peer detail) (Some coming) w = absurd w
take_served (stages.Closed peer) held w = absurd w

pub close_served : (cause : Cause) (stage : Stage) (held : Option Coming)
    → IsAskedAt (askeds.Closing cause) stage held → IsServedAt stage held
close_served cause stages.Early held w = absurd w
close_served cause (stages.Open peer detail) None w =
    record { peer = peer; detail = detail; stage_is = refl; held_is = refl }
close_served cause (stages.Open peer detail) (Some coming) w = absurd w
close_served cause (stages.Closed peer) held w = absurd w

-- ---- a take

-- behind a take that waits nothing stands
pub take_whole : (rows : CentreRows) (items : List Item) (told : List Arrival) (turns : List Turn)
    (v : Talking) → Runs rows items told turns askeds.Taking v → turns_of items ≡ turns
take_whole rows items told turns v r =
    let held = (take_served v.stage v.held r.waits).held_is in
    let seen = turns ++ turns_held v.held in
    let clear : v.course.fault ≡ None =
    ap (λ (p : Position). p.fault) (served_position r tt) in
    let read : v.behind ≡ behinds.Nothing =
    subst (λ (h : Option Coming). IsPassed h v.behind askeds.Taking) held r.passed in
    let reads : ReadsBy v.behind items told seen v =
    subst (λ (f : Option StackFault). MatchOption f (ReadsBy v.behind items told seen v)
    (λ fault. BeginsTurns seen (turns_of items))) clear r.reads in
    let done : IsDone items told seen v =
    subst (λ (b : Behind). ReadsBy b items told seen v) read reads in
    sym done.seen_is ∙ ap (λ (h : Option Coming). turns ++ turns_held h) held
    ∙ append-nil turns

-- ---- all together

pub asked_more : (rows : CentreRows) (past : Past) (who : ℕ) (event : EventKind)
    (answered turns : List Turn) (last : Turn)
    → reverse (events_by who past) ≡ asks_behind rows [] answered
    → turns ≡ answered ++ last ∷ [] → asks_at rows answered last ≡ event ∷ []
    → reverse (events_by who (with_event who event past)) ≡ asks_behind rows [] turns
asked_more rows past who event answered turns last before is one =
    ap (λ (es : List EventKind). reverse es) (event_here event past who)
    ∙ reverse-append (event ∷ []) (events_by who past)
    ∙ ap (λ (es : List EventKind). es ++ event ∷ []) before
    ∙ ap (λ (es : List EventKind). asks_behind rows [] answered ++ es)
    (sym (append-nil (asks_at rows answered last) ∙ one))
    ∙ sym (asks_join rows [] answered (last ∷ []))
    ∙ ap (λ (ts : List Turn). asks_behind rows [] ts) (sym is)

-- it is left for the end that the answer to a take brings: its association is open, and was
-- accepted, and all that the link gave was answered
pub record IsLeftFor (end : ConnEnd) (event : EventKind) (items : List Item) (turns : List Turn)
    (course : Course) (stage : Stage) (progress : Progress) : Type 0 where
  pub progress_is : progress ≡ progresses.Leaving end false
  pub stays : is_open_stage stage ≡ true
  pub event_is : event ≡ events.Take
  pub whole : turns_of items ≡ turns
  pub accepted : is_accepted course.standing ≡ true

-- or it goes on
abbrev pub GoesFor : Option ConnEnd → EventKind → List Item → List Turn → Course → Stage → Progress
    → Type 0
GoesFor None event items turns course stage progress = IsWaiting progress None
GoesFor (Some end) event items turns course stage progress =
    IsLeftFor end event items turns course stage progress

-- what is to be known of the answer
pub record Follows (rows : CentreRows) (past : Past) (who : ℕ) (items : List Item)
    (told : List Arrival) (turns : List Turn) (octets : List ℕ) (event : EventKind)
    (answer : Answer) (old : Talking) : Type 0 where
  pub progress : Progress
  pub stage : Stage
  pub progress_is : progress_told old.progress old.stage (Ok answer) ≡ progress
  pub stage_is : stage_told old.progress (Ok answer) old.stage ≡ stage
  pub goes : GoesFor (end_answered items answer) event items turns old.course stage progress
  pub says : SaysBy stage progress rows past who items told turns
      (octets ++ told_said old.progress old.stage old.course (Ok answer))

serves_on : (rows : CentreRows) (past : Past) (who : ℕ) (items : List Item) (octets : List ℕ)
    (event : EventKind) (answer : Answer) (old new : Talking)
    → (s : Serves rows past who items octets (Some event) old)
    → HasTold rows items s.told s.turns (Ok answer) old new
    → Follows rows (with_event who event past) who items s.told s.turns octets event answer old
    → end_answered items answer ≡ None
    → Serves rows (with_event who event past) who items
    (octets ++ told_said old.progress old.stage old.course (Ok answer)) None new
serves_on rows past who items octets event answer old new s h f none =
    let now = with_event who event past in
    let all = octets ++ told_said old.progress old.stage old.course (Ok answer) in
    let p : new.progress ≡ f.progress = h.progress ∙ f.progress_is in
    let st : new.stage ≡ f.stage = h.stage ∙ f.stage_is in
    record {
      told = s.told;
      turns = s.turns;
      input = s.input;
      stands = h.stands;
      waits = subst (λ (x : Progress). IsWaiting x None) (sym p)
          (subst (λ (o : Option ConnEnd). GoesFor o event items s.turns old.course f.stage f.progress)
          none f.goes);
      answered = s.turns;
      are = refl;
      asked = asked_more rows past who event s.answered s.turns s.are.last s.asked s.are.is
          s.are.asks;
      says = subst (λ (x : Stage). SaysBy x new.progress rows now who items s.told s.turns all)
          (sym st)
          (subst (λ (x : Progress). SaysBy f.stage x rows now who items s.told s.turns all) (sym p)
          f.says);
    }

-- ---- event by event

-- the right answer, by the association that the event is of
abbrev IsRight : CentreRows → Past → ℕ → EventKind → Answer → Type 0
IsRight rows past who event answer = answer ≡ answer_by rows past event (key_at event past who)

right_by : (rows : CentreRows) (past : Past) (who : ℕ) (event one : EventKind) (answer : Answer)
    → IsRight rows past who event answer → event ≡ one → IsRight rows past who one answer
right_by rows past who event one answer right e =
    subst (λ (x : EventKind). IsRight rows past who x answer) e right

opened_follows : (rows : CentreRows) (past : Past) (who : ℕ) (items : List Item)
    (octets : List ℕ) (event : EventKind) (answer : Answer) (old : Talking) (peer : ℕ)
    (offered : Initiate) → (s : Serves rows past who items octets (Some event) old)
    → old.progress ≡ progresses.Running (askeds.Opening peer offered)
    → Runs rows items s.told s.turns (askeds.Opening peer offered) old
    → IsRight rows past who event answer
    → Follows rows (with_event who event past) who items s.told s.turns octets event answer old
opened_follows rows past who items octets event answer old peer offered s p r right =
    let asked = askeds.Opening peer offered in
    let early = opens_early peer offered old.stage old.held r.waits in
    let title = r.last.0 in
    let a = asked_turn rows s.answered s.turns event (offers title) s.are r.last.1 in
    let ev = open_event rows title peer event r.last.2 a.asks in
    let before = says_at s early p in
    let none : asks_behind rows [] s.answered ≡ [] =
    sym s.asked ∙ ap (λ (es : List EventKind). reverse es) before.0 in
    let answer_is : answer ≡ answers.Opened (next_key past peer) =
    right_by rows past who event (events.Open peer) answer right ev in
    let accept = wire old.course.setup.size (accept_tsdu old.course.setup offered) in
    let said_is : told_said old.progress old.stage old.course (Ok answer) ≡ accept =
    ap (λ (x : Progress). told_said x old.stage old.course (Ok answer)) p
    ∙ ap (λ (x : Answer). answer_said old.course old.stage asked x) answer_is in
    let says = opened_says rows past who items s.told s.answered title peer offered octets
    old.course r.stands
    (asked_connected r tt)
    (subst (λ (x : Stage). IsAgreed s.told x asked) early r.agreed) a.goes none before.1 in
    record {
      progress = progresses.Running askeds.Nothing;
      stage = stages.Open peer (detail_in offered);
      progress_is = ap (λ (x : Progress). progress_told x old.stage (Ok answer)) p;
      stage_is = ap (λ (x : Progress). stage_told x (Ok answer) old.stage) p;
      goes = subst (λ (x : Answer). GoesFor (end_answered items x) event items s.turns old.course
          (stages.Open peer (detail_in offered)) (progresses.Running askeds.Nothing)) (sym answer_is)
          tt;
      says = subst (λ (os : List ℕ). SaysOpen rows (with_event who event past) who items s.turns
          (octets ++ os)) (sym said_is)
          (subst (λ (x : EventKind). SaysOpen rows (with_event who x past) who items s.turns
          (octets ++ accept)) (sym ev)
          (subst (λ (ts : List Turn). SaysOpen rows (with_event who (events.Open peer) past) who
          items ts (octets ++ accept)) (sym a.is) says));
    }

requested_follows : (rows : CentreRows) (past : Past) (who : ℕ) (items : List Item)
    (octets : List ℕ) (event : EventKind) (answer : Answer) (old : Talking) (invoke : ℕ)
    → (s : Serves rows past who items octets (Some event) old)
    → old.progress ≡ progresses.Running (askeds.Requesting invoke)
    → Runs rows items s.told s.turns (askeds.Requesting invoke) old
    → IsRight rows past who event answer
    → Follows rows (with_event who event past) who items s.told s.turns octets event answer old
requested_follows rows past who items octets event answer old invoke s p r right =
    let asked = askeds.Requesting invoke in
    let w = request_served invoke old.stage old.held r.waits in
    let call = r.last.0 in
    let a = asked_turn rows s.answered s.turns event (asks invoke call) s.are r.last.1 in
    let ev = sym (first_event (events.Request call) event [] [] a.asks) in
    let o = says_at s w.stage_is refl in
    let answer_is : answer ≡ answers.Reply (reply_to (own_tables rows o.key.peer)
    (view_of rows o.key.peer past) o.key.ordinal call) =
    right_by rows past who event (events.Request call) answer right ev
    ∙ ap (λ (k : Option Key). answer_by rows past (events.Request call) k) o.seat in
    let reply = answer_octets rows past o.key old.course w.detail invoke call in
    let said_is : told_said old.progress old.stage old.course (Ok answer) ≡ reply =
    ap (λ (x : Progress). told_said x old.stage old.course (Ok answer)) p
    ∙ ap (λ (x : Answer). answer_said old.course old.stage asked x) answer_is
    ∙ ap (λ (x : Stage). answer_said old.course x asked (answers.Reply (reply_to
    (own_tables rows o.key.peer) (view_of rows o.key.peer past) o.key.ordinal call))) w.stage_is in
    let says = requested_says rows past who items s.told s.answered invoke call w.detail octets
    old.course r.stands
    (asked_connected r tt)
    (subst (λ (x : Stage). IsAgreed s.told x asked) w.stage_is r.agreed) o in
    record {
      progress = progresses.Running askeds.Nothing;
      stage = stages.Open w.peer w.detail;
      progress_is = ap (λ (x : Progress). progress_told x old.stage (Ok answer)) p;
      stage_is = ap (λ (x : Progress). stage_told x (Ok answer) old.stage) p ∙ w.stage_is;
      goes = subst (λ (x : Answer). GoesFor (end_answered items x) event items s.turns old.course
          (stages.Open w.peer w.detail) (progresses.Running askeds.Nothing)) (sym answer_is) tt;
      says = subst (λ (os : List ℕ). SaysOpen rows (with_event who event past) who items s.turns
          (octets ++ os)) (sym said_is)
          (subst (λ (x : EventKind). SaysOpen rows (with_event who x past) who items s.turns
          (octets ++ reply)) (sym ev)
          (subst (λ (ts : List Turn). SaysOpen rows (with_event who (events.Request call) past) who
          items ts (octets ++ reply)) (sym a.is) says));
    }

-- the detail that was agreed on is that of the text
detail_known : (items : List Item) (told : List Arrival) (detail : ℤ) (v : Course)
    → CourseStands called (text_given items) told v → is_some (first_in connect_in told) ≡ true
    → detail ≡ detail_of (first_in connect_in told) → detail ≡ detail_given items
detail_known items told detail v s connect d =
    let x = fixed_over items [] told v s connect in
    d ∙ ap (λ (c : Option Connecting). detail_of c) (sym x.first)
    ∙ ap (λ (all : List Item). detail_given all) (append-nil items)

-- behind reports
reported_goes : (peer : ℕ) (detail : ℤ) (event : EventKind) (items : List Item) (turns : List Turn)
    (course : Course) (long : Option ℕ) → event ≡ events.Take → turns_of items ≡ turns
    → is_accepted course.standing ≡ true
    → GoesFor (option_map (λ len. conn_ends.TooLong len (unsigned_abs detail)) long) event items
    turns course (stages.Open peer detail) (progress_reported (stages.Open peer detail) long)
reported_goes peer detail event items turns course None ev whole accepted = tt
reported_goes peer detail event items turns course (Some len) ev whole accepted = record {
  progress_is = refl;
  stays = refl;
  event_is = ev;
  whole = whole;
  accepted = accepted;
}

taken_follows : (rows : CentreRows) (past : Past) (who : ℕ) (items : List Item)
    (octets : List ℕ) (event : EventKind) (answer : Answer) (old : Talking)
    → (s : Serves rows past who items octets (Some event) old)
    → old.progress ≡ progresses.Running askeds.Taking
    → Runs rows items s.told s.turns askeds.Taking old
    → IsRight rows past who event answer
    → Follows rows (with_event who event past) who items s.told s.turns octets event answer old
taken_follows rows past who items octets event answer old s p r right =
    let w = take_served old.stage old.held r.waits in
    let a = asked_turn rows s.answered s.turns event pauses s.are r.last in
    let ev = if_event (is_open_behind rows s.answered) events.Take event a.asks in
    let o = says_at s w.stage_is refl in
    let reports = reports_pending (own_tables rows o.key.peer) (view_of rows o.key.peer past)
    o.key.ordinal in
    let answer_is : answer ≡ answers.Reports reports =
    right_by rows past who event events.Take answer right ev
    ∙ ap (λ (k : Option Key). answer_by rows past events.Take k) o.seat in
    let said = reports_octets rows past o.key old.course w.detail in
    let said_is : told_said old.progress old.stage old.course (Ok answer) ≡ said =
    ap (λ (x : Progress). told_said x old.stage old.course (Ok answer)) p
    ∙ ap (λ (x : Answer). answer_said old.course old.stage askeds.Taking x) answer_is
    ∙ ap (λ (x : Stage). answer_said old.course x askeds.Taking (answers.Reports reports))
    w.stage_is in
    let connect = asked_connected r tt in
    let agreed = subst (λ (x : Stage). IsAgreed s.told x askeds.Taking) w.stage_is r.agreed in
    let says = taken_says rows past who items s.told s.answered w.detail octets old.course r.stands
    connect agreed o in
    let at = stages.Open w.peer w.detail in
    let after = progress_reported at (first_too_long w.detail reports) in
    record {
      progress = after;
      stage = at;
      progress_is = ap (λ (x : Progress). progress_told x old.stage (Ok answer)) p
          ∙ ap (λ (x : Answer). progress_by old.stage askeds.Taking x) answer_is
          ∙ ap (λ (x : Stage). progress_by x askeds.Taking (answers.Reports reports)) w.stage_is;
      stage_is = ap (λ (x : Progress). stage_told x (Ok answer) old.stage) p ∙ w.stage_is;
      goes = subst (λ (x : Answer). GoesFor (end_answered items x) event items s.turns old.course at
          after) (sym answer_is)
          (subst (λ (z : ℤ). GoesFor (option_map (λ len. conn_ends.TooLong len (unsigned_abs z))
          (first_too_long z reports)) event items s.turns old.course at after)
          (detail_known items s.told w.detail old.course r.stands connect agreed)
          (reported_goes w.peer w.detail event items s.turns old.course
          (first_too_long w.detail reports) ev (take_whole rows items s.told s.turns old r)
          (ap (λ (x : Position). is_accepted x.standing) (served_position r tt))));
      says = subst (λ (os : List ℕ). SaysOpen rows (with_event who event past) who items s.turns
          (octets ++ os)) (sym said_is)
          (subst (λ (x : EventKind). SaysOpen rows (with_event who x past) who items s.turns
          (octets ++ said)) (sym ev)
          (subst (λ (ts : List Turn). SaysOpen rows (with_event who events.Take past) who items ts
          (octets ++ said)) (sym a.is) says));
    }

none_waits : (cause : Cause) → IsWaiting (progress_closed cause) None
none_waits causes.Concluded = tt
none_waits causes.Released = tt
none_waits causes.Aborted = tt
none_waits causes.LinkEnd = tt
none_waits (causes.Broken fault) = tt

closed_follows : (rows : CentreRows) (past : Past) (who : ℕ) (items : List Item)
    (octets : List ℕ) (event : EventKind) (answer : Answer) (old : Talking) (cause : Cause)
    → (s : Serves rows past who items octets (Some event) old)
    → old.progress ≡ progresses.Running (askeds.Closing cause)
    → Runs rows items s.told s.turns (askeds.Closing cause) old
    → IsRight rows past who event answer
    → Follows rows (with_event who event past) who items s.told s.turns octets event answer old
closed_follows rows past who items octets event answer old cause s p r right =
    let asked = askeds.Closing cause in
    let w = close_served cause old.stage old.held r.waits in
    let a = asked_turn rows s.answered s.turns event (turn_for cause) s.are r.last.0 in
    let ev = close_event rows s.answered cause event a.asks in
    let o = says_at s w.stage_is refl in
    let answer_is : answer ≡ answers.Closed =
    right_by rows past who event events.Close answer right ev
    ∙ ap (λ (k : Option Key). answer_by rows past events.Close k) o.seat in
    let close = closed_said old.course cause in
    let said_is : told_said old.progress old.stage old.course (Ok answer) ≡ close =
    ap (λ (x : Progress). told_said x old.stage old.course (Ok answer)) p
    ∙ ap (λ (x : Answer). answer_said old.course old.stage asked x) answer_is in
    let standing = ap (λ (x : Position). x.standing) (served_position r tt) in
    let says = closed_says rows past who items s.told s.answered cause octets old.course r.stands
    (asked_connected r tt) standing o in
    let after = progress_closed cause in
    record {
      progress = after;
      stage = stages.Closed w.peer;
      progress_is = ap (λ (x : Progress). progress_told x old.stage (Ok answer)) p;
      stage_is = ap (λ (x : Progress). stage_told x (Ok answer) old.stage) p
          ∙ ap (λ (x : Stage). stage_closed x) w.stage_is;
      goes = subst (λ (x : Answer). GoesFor (end_answered items x) event items s.turns old.course
          (stages.Closed w.peer) after) (sym answer_is) (none_waits cause);
      says = subst (λ (os : List ℕ). SaysClosed after rows (with_event who event past) who items
          s.turns (octets ++ os)) (sym said_is)
          (subst (λ (x : EventKind). SaysClosed after rows (with_event who x past) who items s.turns
          (octets ++ close)) (sym ev)
          (subst (λ (ts : List Turn). SaysClosed after rows (with_event who events.Close past) who
          items ts (octets ++ close)) (sym a.is) says));
    }

-- ---- any event

running_follows : (rows : CentreRows) (past : Past) (who : ℕ) (items : List Item)
    (octets : List ℕ) (event : EventKind) (answer : Answer) (old : Talking) (asked : PendingEvent)
    → (s : Serves rows past who items octets (Some event) old)
    → old.progress ≡ progresses.Running asked
    → IsWaiting (progresses.Running asked) (Some event)
    → Runs rows items s.told s.turns asked old → IsRight rows past who event answer
    → Follows rows (with_event who event past) who items s.told s.turns octets event answer old
running_follows rows past who items octets event answer old askeds.Nothing s p w r right = absurd w
running_follows rows past who items octets event answer old (askeds.Opening peer offered) s p w r
    right =
    opened_follows rows past who items octets event answer old peer offered s p r right
running_follows rows past who items octets event answer old (askeds.Requesting invoke) s p w r
    right =
    requested_follows rows past who items octets event answer old invoke s p r right
running_follows rows past who items octets event answer old askeds.Taking s p w r right =
    taken_follows rows past who items octets event answer old s p r right
running_follows rows past who items octets event answer old (askeds.Closing cause) s p w r right =
    closed_follows rows past who items octets event answer old cause s p r right

pub follows_by : (rows : CentreRows) (past : Past) (who : ℕ) (items : List Item)
    (octets : List ℕ) (event : EventKind) (answer : Answer) (old : Talking) (p : Progress)
    → (s : Serves rows past who items octets (Some event) old) → old.progress ≡ p
    → IsWaiting p (Some event) → GoesBy p rows items s.told s.turns old
    → IsRight rows past who event answer
    → Follows rows (with_event who event past) who items s.told s.turns octets event answer old
follows_by rows past who items octets event answer old (progresses.Running asked) s p w g right =
    running_follows rows past who items octets event answer old asked s p w g right
follows_by rows past who items octets event answer old progresses.Refused s p w g right = absurd w
follows_by rows past who items octets event answer old (progresses.Leaving end asked) s p w g
    right = absurd w
follows_by rows past who items octets event answer old (progresses.Ended end) s p w g right =
    absurd w
follows_by rows past who items octets event answer old (progresses.Cut end) s p w g right = absurd w

-- an event that was answered stands in the history, and its answer was said
pub answered_serves : (setup : Setup) (past : Past) (who : ℕ) (items : List Item)
    (octets : List ℕ) (event : EventKind) (answer : Answer) (old new : Talking)
    → (s : Serves setup.centre past who items octets (Some event) old)
    → IsRightOutcome setup past who event (Ok answer)
    → HasTold setup.centre items s.told s.turns (Ok answer) old new
    → end_answered items answer ≡ None
    → Serves setup.centre (with_event who event past) who items
    (octets ++ told_said old.progress old.stage old.course (Ok answer)) None new
answered_serves setup past who items octets event answer old new s right h none =
    serves_on setup.centre past who items octets event answer old new s h
    (follows_by setup.centre past who items octets event answer old old.progress s refl s.waits
    s.stands.goes right.1) none
