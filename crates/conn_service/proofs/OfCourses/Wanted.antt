-- A connection that reads on serves on.
use Rattle.std.proofs.Common.{◌≡◌, ℕ, Bool, true, false, List, [], ◌∷◌, ◌++◌, Option, Some, None}
use Rattle.std.proofs.Common.{refl, sym, ap, subst, ◌∙◌, append_assoc}
use Rattle.std.specs.Prelude.{is_some, if◌then◌else◌, ◌||◌}
use Rattle.std.specs.List.{list_any}
use Rattle.std.proofs.lemmas.List.{append-nil, append_cancel_left}
use Rattle.std.proofs.lemmas.List.Folds.{list_any-append}
use Rattle.stack_assoc.specs.declared.wire.setup.AssociationSetup.{AssociationSetup}
use Rattle.stack_assoc.specs.Arrivals.{Arrival, called}
use Rattle.stack_assoc.specs.Handing.{answers_to}
use Rattle.stack_assoc.specs.Expectations.{setup_after}
use Rattle.bilateral.specs.Rows.{CentreRows, place_of_title}
use Rattle.tase_views.specs.declared.event.EventKind.{EventKind}
use Rattle.tase_views.specs.declared.event.EventKind.TheVariants as events
use Rattle.tase_views.specs.History.{Past}
use Rattle.tase_conn.specs.Map.Inputs.{Item, text_given}
use Rattle.tase_conn.specs.Map.Turns.{Turn, offers, offers_badly, asks, concludes, releases, aborts}
use Rattle.tase_conn.specs.Map.Turns.{breaks, ends, pauses}
use Rattle.tase_conn.specs.Map.Asks.{is_last, is_open_behind, begins, finishes, event_if, open_of, asks_at}
use Rattle.tase_conn.specs.Map.Asks.{asks_behind}
use Rattle.tase_conn.specs.declared.stage.PendingEvent.{PendingEvent}
use Rattle.tase_conn.specs.declared.stage.PendingEvent.TheVariants as askeds
use Rattle.tase_conn.specs.declared.stage.Cause.{Cause}
use Rattle.tase_conn.specs.declared.stage.Cause.TheVariants as causes
use Rattle.tase_conn.specs.declared.stage.Progress.{Progress}
use Rattle.tase_conn.specs.declared.stage.Progress.TheVariants as progresses
use Rattle.tase_conn.specs.declared.stage.Stage.{Stage}
use Rattle.tase_conn.specs.declared.stage.Stage.TheVariants as stages
use Rattle.tase_conn.specs.Talking.{Talking, pending_of}
use Rattle.tase_conn.specs.Places.{ConnStandsAt, Runs, EndsWithTurn, turn_for}
use Rattle.tase_conn.specs.Places.{Reach, has_begun, has_finished}
use Rattle.tase_conn.proofs.Known.{begun_connected}
use Rattle.tase_conn.specs.Wanting.{quiet_at, quiet_behind, ReadsOn, WaitsFor}
use Rattle.tase_conn.proofs.Composed.{quiet_join}
use Rattle.tase_conn.proofs.OfMap.AskedOn.{asks_join}
use Rattle.conn_service.specs.Courses.Serving.{IsWaiting, SaysOpen, SaysClosed, SaysBy, Serves, IsAllSaid}
use Rattle.conn_service.specs.Courses.Serving.{IsSaidButOwed}
use Rattle.conn_service.proofs.OfCourses.Answered.{take_served, close_served}
use Rattle.conn_service.proofs.OfCourses.Seats.{goes_at, says_now}
use Rattle.conn_service.proofs.OfCourses.Texts.{answers-append, connected_once}
use Rattle.tase_conn.proofs.OfMap.Fronts.{has_front}
use Rattle.conn_service.proofs.OfCourses.TurnLists.{quiet_none, any_front, any_back}
use Rattle.conn_service.proofs.OfCourses.TurnLists.{behind_silent, same_ends}

-- ---- what is said on the way

-- nothing more is answered at once once the association has begun
unanswered : (rows : CentreRows) (items : List Item) (told later : List Arrival)
    (turns more : List Turn) (asked : PendingEvent) (stage : Stage) (old new : Talking)
    → Runs rows items told turns askeds.Nothing old
    → Runs rows items (told ++ later) more asked new → old.stage ≡ stage
    → has_begun stage ≡ true → answers_to called later ≡ []
unanswered rows items told later turns more asked stage old new r n st connected =
    connected_once (text_given items) told later
    (begun_connected r (ap (λ (x : Stage). has_begun x) st ∙ connected))
    (has_front (text_given items) (told ++ later) new.course n.stands)

none_said : (octets more later : List ℕ) → more ≡ later → later ≡ [] → octets ++ more ≡ octets
none_said octets more later e n =
    ap (λ (os : List ℕ). octets ++ os) (e ∙ n) ∙ append-nil octets

-- behind messages that are answered at once, and turns that ask for nothing
pub says_on : (rows : CentreRows) (past : Past) (who : ℕ) (items : List Item)
    (told later : List Arrival) (turns more front : List Turn) (asked : PendingEvent) (stage : Stage)
    (octets octets_more : List ℕ) (old new : Talking)
    → Runs rows items told turns askeds.Nothing old
    → Runs rows items (told ++ later) more asked new → old.stage ≡ stage
    → SaysBy stage (progresses.Running askeds.Nothing) rows past who items told turns octets
    → octets_more ≡ answers_to called later → list_any (is_last rows) turns ≡ false
    → list_any (is_last rows) front ≡ false → asks_behind rows turns front ≡ []
    → SaysBy stage (progresses.Running asked) rows past who items (told ++ later)
    (turns ++ front) (octets ++ octets_more)
says_on rows past who items told later turns more front asked stages.Early octets octets_more old
    new r n st says said l f e = (
      says.0,
      ap (λ (os : List ℕ). os ++ octets_more) says.1
          ∙ ap (λ (os : List ℕ). answers_to called told ++ os) said
          ∙ sym (answers-append told later),
    )
says_on rows past who items told later turns more front asked (stages.Open peer detail) octets
    octets_more old new r n st says said l f e =
    let same = none_said octets octets_more (answers_to called later) said
    (unanswered rows items told later turns more asked (stages.Open peer detail) old new r n st
    refl) in
    subst (λ (os : List ℕ). SaysOpen rows past who items (turns ++ front) os) (sym same)
    (record {
      key = says.key;
      seat = says.seat;
      octets = behind_silent (IsAllSaid rows past says.key octets) rows items turns front l f e
          says.octets;
    })
says_on rows past who items told later turns more front asked (stages.Closed peer) octets
    octets_more old new r n st says said l f e =
    let same = none_said octets octets_more (answers_to called later) said
    (unanswered rows items told later turns more asked (stages.Closed peer) old new r n st refl) in
    subst (λ (os : List ℕ). SaysClosed (progresses.Running asked) rows past who items
    (turns ++ front) os) (sym same)
    (record {
      key = says.key;
      opened = says.opened;
      closed = says.closed;
      octets = behind_silent (IsSaidButOwed (progresses.Running asked) rows past says.key octets) rows
          items turns front l f e says.octets;
    })

-- ---- it goes on, and nothing is asked

pub goes_on : (rows : CentreRows) (past : Past) (who : ℕ) (items : List Item)
    (octets octets_more : List ℕ) (old new : Talking)
    → (s : Serves rows past who items octets None old) (later : List Arrival) (more : List Turn)
    → old.progress ≡ progresses.Running askeds.Nothing
    → new.progress ≡ progresses.Running askeds.Nothing → new.stage ≡ old.stage
    → ConnStandsAt rows items (s.told ++ later) (s.turns ++ more) new
    → asks_behind rows s.turns more ≡ [] → octets_more ≡ answers_to called later
    → Serves rows past who items (octets ++ octets_more) None new
goes_on rows past who items octets octets_more old new s later more p q st stands none said =
    let idle = progresses.Running askeds.Nothing in
    let told = s.told ++ later in
    let turns = s.turns ++ more in
    let r = goes_at s.stands p in
    let n = goes_at stands q in
    let before = says_now s p in
    let says = says_on rows past who items s.told later s.turns turns more askeds.Nothing old.stage
    octets octets_more old new r n refl before said
    (any_front (is_last rows) s.turns more (ap (λ (x : Reach). x.ending) n.reached))
    (any_back (is_last rows) s.turns more (ap (λ (x : Reach). x.ending) n.reached)) none in
    record {
      told = told;
      turns = turns;
      input = s.input;
      stands = stands;
      waits = subst (λ (x : Progress). IsWaiting x None) (sym q) tt;
      answered = turns;
      are = refl;
      asked = s.asked ∙ ap (λ (ts : List Turn). asks_behind rows [] ts) (sym s.are)
          ∙ sym (append-nil (asks_behind rows [] s.turns))
          ∙ ap (λ (es : List EventKind). asks_behind rows [] s.turns ++ es) (sym none)
          ∙ sym (asks_join rows [] s.turns more);
      says = subst (λ (x : Stage). SaysBy x new.progress rows past who items told turns
          (octets ++ octets_more)) (sym st)
          (subst (λ (x : Progress). SaysBy old.stage x rows past who items told turns
          (octets ++ octets_more)) (sym q) says);
    }

-- ---- an event is asked

-- the last turn asks for one event
record AsksOne (rows : CentreRows) (turns : List Turn) : Type 0 where
  last : Turn
  ends : EndsWithTurn rows turns last
  one : EventKind
  asks : asks_at rows ends.front last ≡ one ∷ []

any_but : (p : Turn → Bool) (front turns : List Turn) (last : Turn) (b : Bool)
    → turns ≡ front ++ last ∷ [] → p last ≡ false → list_any p turns ≡ b → list_any p front ≡ b
any_but p front turns last b is none e =
    sym (or_false (list_any p front))
    ∙ ap (λ (x : Bool). list_any p front || (x || false)) (sym none)
    ∙ sym (list_any-append p front (last ∷ []))
    ∙ ap (λ (ts : List Turn). list_any p ts) (sym is) ∙ e
  where
    or_false : (a : Bool) → (a || (false || false)) ≡ a
    or_false true = refl
    or_false false = refl

open_where : (rows : CentreRows) (front : List Turn) → list_any (begins rows) front ≡ true
    → list_any finishes front ≡ false → is_open_behind rows front ≡ true
open_where rows front b f = rw (b, f) refl

one_close : (rows : CentreRows) (front : List Turn) (cause : Cause)
    → is_open_behind rows front ≡ true → asks_at rows front (turn_for cause) ≡ events.Close ∷ []
one_close rows front causes.Concluded o = ap (λ (b : Bool). event_if b events.Close) o
one_close rows front causes.Released o = ap (λ (b : Bool). event_if b events.Close) o
one_close rows front causes.Aborted o = ap (λ (b : Bool). event_if b events.Close) o
one_close rows front causes.LinkEnd o = ap (λ (b : Bool). event_if b events.Close) o
one_close rows front (causes.Broken fault) o = ap (λ (b : Bool). event_if b events.Close) o

begins_none : (rows : CentreRows) (cause : Cause) → begins rows (turn_for cause) ≡ false
begins_none rows causes.Concluded = refl
begins_none rows causes.Released = refl
begins_none rows causes.Aborted = refl
begins_none rows causes.LinkEnd = refl
begins_none rows (causes.Broken fault) = refl

asks_one : (rows : CentreRows) (items : List Item) (told : List Arrival) (turns : List Turn)
    (asked : PendingEvent) (event : EventKind) (v : Talking) → WaitsFor (progresses.Running asked) event
    → Runs rows items told turns asked v → AsksOne rows turns
asks_one rows items told turns askeds.Nothing event v w r = absurd w
asks_one rows items told turns (askeds.Opening peer offered) event v w r = record {
  last = offers r.last.0;
  ends = r.last.1;
  one = events.Open peer;
  asks = ap (λ (found : Option ℕ). open_of found) r.last.2;
}
asks_one rows items told turns (askeds.Requesting invoke) event v w r = record {
  last = asks invoke r.last.0;
  ends = r.last.1;
  one = events.Request r.last.0;
  asks = refl;
}
asks_one rows items told turns askeds.Taking event v w r =
    let at = take_served v.stage v.held r.waits in
    record {
      last = pauses;
      ends = r.last;
      one = events.Take;
      asks = ap (λ (b : Bool). event_if b events.Take)
          (open_where rows r.last.front
          (any_but (begins rows) r.last.front turns pauses true r.last.is refl
          (ap (λ (x : Reach). x.begun) r.reached ∙ ap (λ (x : Stage). has_begun x) at.stage_is))
          (any_but finishes r.last.front turns pauses false r.last.is refl
          (ap (λ (x : Reach). x.finished) r.reached
          ∙ ap (λ (x : Stage). has_finished x) at.stage_is)));
    }
asks_one rows items told turns (askeds.Closing cause) event v w r =
    let at = close_served cause v.stage v.held r.waits in
    let e = r.last.0 in
    record {
      last = turn_for cause;
      ends = e;
      one = events.Close;
      asks = one_close rows e.front cause (open_where rows e.front
          (any_but (begins rows) e.front turns (turn_for cause) true e.is (begins_none rows cause)
          (ap (λ (x : Reach). x.begun) r.reached ∙ ap (λ (x : Stage). has_begun x) at.stage_is))
          r.last.1);
    }

-- at such a turn nothing is said
peer_quiet : (found : Option ℕ) (one : EventKind) (octets : List ℕ) → open_of found ≡ one ∷ []
    → (if is_some found then [] else octets) ≡ []
peer_quiet None one octets e = absurd cc
peer_quiet (Some peer) one octets e = refl

close_quiet : (b : Bool) (one : EventKind) (octets : List ℕ)
    → event_if b events.Close ≡ one ∷ [] → (if b then [] else octets) ≡ []
close_quiet true one octets e = refl
close_quiet false one octets e = absurd cc

asking_quiet : (rows : CentreRows) (setup : AssociationSetup) (front : List Turn) (last : Turn)
    (one : EventKind) → asks_at rows front last ≡ one ∷ []
    → quiet_at rows setup front last ≡ []
asking_quiet rows setup front (offers title) one e =
    peer_quiet (place_of_title rows title) one _ e
asking_quiet rows setup front offers_badly one e = absurd cc
asking_quiet rows setup front (asks invoke call) one e = refl
asking_quiet rows setup front concludes one e = refl
asking_quiet rows setup front releases one e = close_quiet (is_open_behind rows front) one _ e
asking_quiet rows setup front aborts one e = refl
asking_quiet rows setup front breaks one e = close_quiet (is_open_behind rows front) one _ e
asking_quiet rows setup front ends one e = refl
asking_quiet rows setup front pauses one e = refl

pub last_of : (turn : Turn) (turns : List Turn)
    → (front : List Turn) × (last : Turn) × (turn ∷ turns ≡ front ++ last ∷ [])
last_of turn [] = ([], turn, refl)
last_of turn (next ∷ turns) =
    let r = last_of next turns in (turn ∷ r.0, r.1, ap (λ (ts : List Turn). turn ∷ ts) r.2)

-- the turns behind those that were acted on, where they ask for one event
record Behind (rows : CentreRows) (turns more : List Turn) (event : EventKind)
    (a : AsksOne rows (turns ++ more)) : Type 0 where
  silent : List Turn
  front_is : a.ends.front ≡ turns ++ silent
  more_is : more ≡ silent ++ a.last ∷ []
  event_is : event ≡ a.one
  none : asks_behind rows turns silent ≡ []

some_more : (rows : CentreRows) (turns more : List Turn) (event : EventKind)
    → asks_behind rows turns more ≡ event ∷ []
    → (front : List Turn) × (last : Turn) × (more ≡ front ++ last ∷ [])
some_more rows turns [] event e = absurd cc
some_more rows turns (turn ∷ more) event e = last_of turn more

behind : (rows : CentreRows) (turns more : List Turn) (event : EventKind)
    (a : AsksOne rows (turns ++ more)) → asks_behind rows turns more ≡ event ∷ []
    → Behind rows turns more event a
behind rows turns more event a e =
    let m = some_more rows turns more event e in
    let same = same_ends (turns ++ m.0) a.ends.front m.1 a.last
    (append_assoc turns m.0 (m.1 ∷ [])
    ∙ ap (λ (ts : List Turn). turns ++ ts) (sym m.2) ∙ a.ends.is) in
    let all : asks_behind rows [] turns ++ event ∷ []
    ≡ asks_behind rows [] a.ends.front ++ a.one ∷ [] =
    ap (λ (es : List EventKind). asks_behind rows [] turns ++ es) (sym e)
    ∙ sym (asks_join rows [] turns more)
    ∙ ap (λ (ts : List Turn). asks_behind rows [] ts) a.ends.is
    ∙ asks_join rows [] a.ends.front (a.last ∷ [])
    ∙ ap (λ (es : List EventKind). asks_behind rows [] a.ends.front ++ es)
    (append-nil (asks_at rows a.ends.front a.last) ∙ a.asks) in
    let ends = same_ends (asks_behind rows [] turns) (asks_behind rows [] a.ends.front) event a.one
    all in
    record {
      silent = m.0;
      front_is = sym same.0;
      more_is = m.2 ∙ ap (λ t. m.0 ++ t ∷ []) same.1;
      event_is = ends.1;
      none = append_cancel_left (asks_behind rows [] turns) (asks_behind rows turns m.0) []
          (sym (asks_join rows [] turns m.0)
          ∙ ap (λ (ts : List Turn). asks_behind rows [] ts) same.0 ∙ sym ends.0
          ∙ sym (append-nil (asks_behind rows [] turns)));
    }

running_of : (p : Progress) (event : EventKind) → WaitsFor p event
    → (asked : PendingEvent) × (p ≡ progresses.Running asked)
running_of (progresses.Running asked) event w = (asked, refl)
running_of progresses.Refused event w = absurd w
running_of (progresses.Leaving end asked) event w = absurd w
running_of (progresses.Ended end) event w = absurd w
running_of (progresses.Cut end) event w = absurd w

is_waiting : (asked : PendingEvent) (event : EventKind) → WaitsFor (progresses.Running asked) event
    → IsWaiting (progresses.Running asked) (Some event)
is_waiting askeds.Nothing event w = w
is_waiting (askeds.Opening peer offered) event w = w
is_waiting (askeds.Requesting invoke) event w = w
is_waiting askeds.Taking event w = w
is_waiting (askeds.Closing cause) event w = w

-- where an event is asked, what is answered at once is all that is said
asking_said : (rows : CentreRows) (items : List Item) (told : List Arrival) (turns : List Turn)
    (event : EventKind) (octets_more : List ℕ) (old new : Talking)
    → (g : ReadsOn rows items told turns (event ∷ []) old new)
    → (a : AsksOne rows (turns ++ g.more)) → Behind rows turns g.more event a
    → pending_of new ≡ pending_of old ++ octets_more → octets_more ≡ answers_to called g.later
asking_said rows items told turns event octets_more old new g a b pending =
    let setup = setup_after (told ++ g.later) in
    let none : quiet_behind rows setup turns g.more ≡ [] =
    ap (λ (ts : List Turn). quiet_behind rows setup turns ts) b.more_is
    ∙ quiet_join rows setup turns b.silent (a.last ∷ [])
    ∙ ap (λ (os : List ℕ). os ++ quiet_behind rows setup (turns ++ b.silent) (a.last ∷ []))
    (quiet_none rows setup turns b.silent
    (any_back (is_last rows) turns b.silent
    (ap (λ (ts : List Turn). list_any (is_last rows) ts) (sym b.front_is) ∙ a.ends.goes)))
    ∙ append-nil (quiet_at rows setup (turns ++ b.silent) a.last)
    ∙ ap (λ (ts : List Turn). quiet_at rows setup ts a.last) (sym b.front_is)
    ∙ asking_quiet rows setup a.ends.front a.last a.one a.asks in
    append_cancel_left (pending_of old) octets_more (answers_to called g.later)
    (sym pending ∙ g.said ∙ ap (λ (os : List ℕ). pending_of old ++
    (answers_to called g.later ++ os))
    none ∙ ap (λ (os : List ℕ). pending_of old ++ os) (append-nil (answers_to called g.later)))

pub asks_on : (rows : CentreRows) (past : Past) (who : ℕ) (items : List Item)
    (octets octets_more : List ℕ) (event : EventKind) (old new : Talking)
    → (s : Serves rows past who items octets None old)
    → old.progress ≡ progresses.Running askeds.Nothing → new.stage ≡ old.stage
    → WaitsFor new.progress event → ReadsOn rows items s.told s.turns (event ∷ []) old new
    → pending_of new ≡ pending_of old ++ octets_more
    → Serves rows past who items (octets ++ octets_more) (Some event) new
asks_on rows past who items octets octets_more event old new s p st w g pending =
    let idle = progresses.Running askeds.Nothing in
    let found = running_of new.progress event w in
    let asked = found.0 in
    let told = s.told ++ g.later in
    let turns = s.turns ++ g.more in
    let waits : WaitsFor (progresses.Running asked) event =
    subst (λ (x : Progress). WaitsFor x event) found.1 w in
    let r = goes_at s.stands p in
    let n = goes_at g.stands found.1 in
    let a = asks_one rows items told turns asked event new waits n in
    let b = behind rows s.turns g.more event a g.asks_are in
    let goes : list_any (is_last rows) (s.turns ++ b.silent) ≡ false =
    ap (λ (ts : List Turn). list_any (is_last rows) ts) (sym b.front_is) ∙ a.ends.goes in
    let before = says_now s p in
    let says = says_on rows past who items s.told g.later s.turns turns b.silent asked old.stage
    octets octets_more old new r n refl before
    (asking_said rows items s.told s.turns event octets_more old new g a b pending)
    (any_front (is_last rows) s.turns b.silent goes)
    (any_back (is_last rows) s.turns b.silent goes) b.none in
    record {
      told = told;
      turns = turns;
      input = s.input;
      stands = g.stands;
      waits = subst (λ (x : Progress). IsWaiting x (Some event)) (sym found.1)
          (is_waiting asked event waits);
      answered = a.ends.front;
      are = record {
        last = a.last;
        is = a.ends.is;
        asks = a.asks ∙ ap (λ (e : EventKind). e ∷ []) (sym b.event_is);
      };
      asked = s.asked ∙ ap (λ (ts : List Turn). asks_behind rows [] ts) (sym s.are)
          ∙ sym (append-nil (asks_behind rows [] s.turns))
          ∙ ap (λ (es : List EventKind). asks_behind rows [] s.turns ++ es) (sym b.none)
          ∙ sym (asks_join rows [] s.turns b.silent)
          ∙ ap (λ (ts : List Turn). asks_behind rows [] ts) (sym b.front_is);
      says = subst (λ (x : Stage). SaysBy x new.progress rows past who items told a.ends.front
          (octets ++ octets_more)) (sym st)
          (subst (λ (x : Progress). SaysBy old.stage x rows past who items told a.ends.front
          (octets ++ octets_more)) (sym found.1)
          (subst (λ (ts : List Turn). SaysBy old.stage (progresses.Running asked) rows past who
          items told ts (octets ++ octets_more)) (sym b.front_is) says));
    }

-- ---- the event that waits

waits_for : (asked : PendingEvent) (event : EventKind) → IsWaiting (progresses.Running asked) (Some event)
    → WaitsFor (progresses.Running asked) event
waits_for askeds.Nothing event w = w
waits_for (askeds.Opening peer offered) event w = w
waits_for (askeds.Requesting invoke) event w = w
waits_for askeds.Taking event w = w
waits_for (askeds.Closing cause) event w = w

pub waiting_of : (p : Progress) (event : EventKind) → IsWaiting p (Some event)
    → (asked : PendingEvent) × (p ≡ progresses.Running asked)
waiting_of (progresses.Running asked) event w = (asked, refl)
waiting_of progresses.Refused event w = absurd w
waiting_of (progresses.Leaving end asked) event w = absurd w
waiting_of (progresses.Ended end) event w = absurd w
waiting_of (progresses.Cut end) event w = absurd w

-- something follows each turn that is answered
pub answered_goes : (rows : CentreRows) (past : Past) (who : ℕ) (items : List Item)
    (octets : List ℕ) (event : EventKind) (v : Talking)
    → (s : Serves rows past who items octets (Some event) v)
    → list_any (is_last rows) s.answered ≡ false
answered_goes rows past who items octets event v s =
    let found = waiting_of v.progress event s.waits in
    let r = goes_at s.stands found.1 in
    let a = asks_one rows items s.told s.turns found.0 event v
    (waits_for found.0 event
    (subst (λ (x : Progress). IsWaiting x (Some event)) found.1 s.waits)) r in
    let same = same_ends s.answered a.ends.front s.are.last a.last (sym s.are.is ∙ a.ends.is) in
    ap (λ (ts : List Turn). list_any (is_last rows) ts) same.0 ∙ a.ends.goes
