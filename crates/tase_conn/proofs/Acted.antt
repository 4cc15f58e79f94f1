-- A step of a connection that acts on what was read.
use Rattle.std.proofs.Common.{◌≡◌, ℕ, Bool, true, false, List, [], ◌∷◌, ◌++◌, Option, Some}
use Rattle.std.proofs.Common.{None}
use Rattle.std.proofs.Common.{refl, sym, ap, subst, ◌∙◌}
use Rattle.std.specs.Prelude.{◌||◌, ◌&&◌, not, IfSome, MatchOption, is_some}
use Rattle.std.specs.List.{list_any}
use Rattle.std.proofs.lemmas.List.{append-nil}
use Rattle.std.proofs.lemmas.List.Folds.{list_any-append}
use Rattle.bilateral.specs.Rows.{CentreRows}
use Rattle.stack_assoc.specs.declared.messages.fault.StackFault.{StackFault}
use Rattle.stack_assoc.specs.declared.wire.setup.AssociationSetup.{AssociationSetup}
use Rattle.stack_assoc.specs.Arrivals.{Arrival, called, first_in, connect_in}
use Rattle.stack_assoc.specs.Expectations.{setup_after}
use Rattle.stack_assoc.specs.Handing.{answers_to}
use Rattle.tase_views.specs.declared.event.EventKind.{EventKind}
use Rattle.tase_conn.specs.Map.Inputs.{Item, text_given}
use Rattle.tase_conn.specs.Map.Readings.{reading_of}
use Rattle.tase_conn.specs.Map.Turns.{Turn, turns_of}
use Rattle.tase_conn.specs.Map.Asks.{begins, finishes, is_last, is_open_behind, asks_at, asks_behind}
use Rattle.tase_conn.specs.declared.stage.ConnEnd.{ConnEnd}
use Rattle.tase_conn.specs.declared.stage.ConnEnd.TheVariants as conn_ends
use Rattle.tase_conn.specs.declared.stage.Stage.{Stage}
use Rattle.tase_conn.specs.declared.stage.Behind.{Behind}
use Rattle.tase_conn.specs.declared.stage.Behind.TheVariants as behinds
use Rattle.tase_conn.specs.declared.stage.Coming.{Coming}
use Rattle.tase_conn.specs.declared.stage.PendingEvent.{PendingEvent}
use Rattle.tase_conn.specs.declared.stage.PendingEvent.TheVariants as askeds
use Rattle.tase_conn.specs.declared.stage.Progress.{Progress}
use Rattle.tase_conn.specs.declared.stage.Progress.TheVariants as progresses
use Rattle.tase_conn.specs.declared.stage.Step.TheVariants as steps
use Rattle.tase_conn.specs.PeerEnd.{end_at}
use Rattle.tase_conn.specs.Talking.{Talking, pending_of, stage_peer}
use Rattle.tase_conn.specs.Places.{ConnStandsAt, Runs, GoesBy, EndsWithTurn, IsReadToEnd}
use Rattle.tase_conn.specs.Places.{RoomBy}
use Rattle.tase_conn.specs.Places.{IsPeer, IsAgreed, IsAskedBy, HasRead, BeginsTurns, turn_coming}
use Rattle.tase_conn.specs.Places.{turn_listed, turns_held, position_of, position_at, position_by}
use Rattle.tase_conn.specs.Places.{with_coming, with_asked, Reach, reach_of, reach_at, reach_by}
use Rattle.tase_conn.specs.Places.{IsAskedAt, IsDue, IsPassed, ReadsBy}
use Rattle.tase_conn.specs.Wanting.{quiet_at, quiet_behind, WaitsFor, IsIdle}
use Rattle.tase_conn.specs.Acting.{HasEnded, StepsBy, holding}
use Rattle.tase_conn.proofs.LastTurns.{BringsEnd, brought_end, brought_whole}
use Rattle.tase_conn.proofs.SeenTurns.{seen_front}

-- ---- one turn more

-- how far it has come with these turns more
abbrev pub with_turns : CentreRows → List Turn → Reach → Reach
with_turns rows more r = record {
  begun = r.begun || list_any (begins rows) more;
  finished = r.finished || list_any finishes more;
  ending = r.ending || list_any (is_last rows) more;
}

reach_on : (rows : CentreRows) (turns more : List Turn)
    → reach_of rows (turns ++ more) ≡ with_turns rows more (reach_of rows turns)
reach_on rows turns more =
    rw (
      list_any-append (begins rows) turns more,
      list_any-append finishes turns more,
      list_any-append (is_last rows) turns more,
    ) refl

-- ---- where it stands with something to be acted on

-- it runs, with nothing waiting
pub running_idle : (rows : CentreRows) (items : List Item) (told : List Arrival) (turns : List Turn)
    (v : Talking) → IsIdle v.progress → ConnStandsAt rows items told turns v
    → Runs rows items told turns askeds.Nothing v
running_idle rows items told turns v idle s =
    subst (λ (p : Progress). GoesBy p rows items told turns v) idle s.goes

-- ---- an event is asked

abbrev pub asking : PendingEvent → Talking → Talking
asking asked v = record v { progress = progresses.Running asked }

-- a turn behind others
abbrev pub ends_with : (rows : CentreRows) (turns : List Turn) (turn : Turn)
    → list_any (is_last rows) turns ≡ false → EndsWithTurn rows (turns ++ turn ∷ []) turn
ends_with rows turns turn goes = record { front = turns; is = refl; goes = goes }

-- what is to hold of a turn, and of the event that it asks for
pub record Asking (rows : CentreRows) (told : List Arrival) (turns : List Turn) (turn : Turn)
    (event : EventKind) (stage : Stage) (asked : PendingEvent) (coming : Coming) : Type 0 where
  pub turn_is : turn_coming coming ≡ Some turn
  pub at : with_coming coming (position_at stage) ≡ with_asked asked (position_at stage)
  pub reached : with_turns rows (turn ∷ []) (reach_at stage) ≡ reach_by stage asked
  pub agreed : IsAgreed told stage asked
  pub last : IsAskedBy rows (turns ++ turn ∷ []) asked
  pub asks_are : asks_at rows turns turn ≡ event ∷ []
  pub quiet : (setup : AssociationSetup) → quiet_at rows setup turns turn ≡ []
  pub waits : WaitsFor (progresses.Running asked) event
  pub due : IsAskedAt asked stage None
  pub passed : (behind : Behind) → IsPassed (Some coming) behind askeds.Nothing
      → IsPassed None behind asked

-- what was read stays read
read_on : (b : Behind) (items : List Item) (told : List Arrival) (seen : List Turn)
    (held : Option Coming) (progress : Progress) (v : Talking) → ReadsBy b items told seen v
    → ReadsBy b items told seen (record v { held = held; progress = progress })
read_on behinds.Nothing items told seen held progress v r = record {
  told_is = r.told_is;
  unbroken = r.unbroken;
  seen_is = r.seen_is;
  settled = r.settled;
}
read_on behinds.Pause items told seen held progress v r = record {
  done = r.done;
  item = r.item;
  is = r.is;
  behind = r.behind;
  later = r.later;
  told_is = r.told_is;
  unbroken = r.unbroken;
  seen_is = r.seen_is;
}
read_on behinds.End items told seen held progress v r = record {
  done = r.done;
  item = r.item;
  is = r.is;
  behind = r.behind;
  later = r.later;
  told_is = r.told_is;
  unbroken = r.unbroken;
  seen_is = r.seen_is;
}

has_read_by : (f : Option StackFault) (items : List Item) (told : List Arrival) (seen : List Turn)
    (held : Option Coming) (progress : Progress) (v : Talking) → v.course.fault ≡ f
    → HasRead items told seen v
    → HasRead items told seen (record v { held = held; progress = progress })
has_read_by None items told seen held progress v e r =
    let P : Option StackFault → Type 0 = λ x. MatchOption x (ReadsBy v.behind items told seen v)
    (λ fault. BeginsTurns seen (turns_of items)) in
    let Q : Option StackFault → Type 0 = λ x. MatchOption x
    (ReadsBy v.behind items told seen (record v { held = held; progress = progress }))
    (λ fault. BeginsTurns seen (turns_of items)) in
    subst Q (sym e) (read_on v.behind items told seen held progress v (subst P e r))
has_read_by (Some f) items told seen held progress v e r =
    let P : Option StackFault → Type 0 = λ x. MatchOption x (ReadsBy v.behind items told seen v)
    (λ fault. BeginsTurns seen (turns_of items)) in
    let Q : Option StackFault → Type 0 = λ x. MatchOption x
    (ReadsBy v.behind items told seen (record v { held = held; progress = progress }))
    (λ fault. BeginsTurns seen (turns_of items)) in
    subst Q (sym e) (subst P e r)

-- and what was held was seen
pub has_read : (items : List Item) (told : List Arrival) (turns more : List Turn)
    (held : Option Coming) (progress : Progress) (v : Talking) (coming : Coming)
    → turn_listed (turn_coming coming) ≡ more
    → HasRead items told (turns ++ turns_held (Some coming)) v
    → HasRead items told ((turns ++ more) ++ []) (record v { held = held; progress = progress })
has_read items told turns more held progress v coming is r =
    has_read_by v.course.fault items told ((turns ++ more) ++ []) held progress v refl
    (subst (λ (ts : List Turn). HasRead items told ts v)
    (ap (λ (ts : List Turn). turns ++ ts) is ∙ sym (append-nil (turns ++ more))) r)

runs_asking : (rows : CentreRows) (items : List Item) (told : List Arrival) (turns : List Turn)
    (turn : Turn) (event : EventKind) (stage : Stage) (asked : PendingEvent) (coming : Coming)
    (v : Talking) → v.stage ≡ stage → v.held ≡ None
    → Asking rows told turns turn event stage asked coming
    → Runs rows items told turns askeds.Nothing (holding coming v)
    → Runs rows items told (turns ++ turn ∷ []) asked (asking asked v)
runs_asking rows items told turns turn event stage asked coming v at empty a r =
    let held : (P : Option Coming → Type 0) → P None → P v.held = λ P p. subst P (sym empty) p in
    let on : (P : Stage → Type 0) → P stage → P v.stage = λ P p. subst P (sym at) p in
    record {
      stands = r.stands;
      reads = held (λ h. HasRead items told ((turns ++ turn ∷ []) ++ turns_held h) (asking asked v))
          (has_read items told turns (turn ∷ []) v.held (progresses.Running asked)
          (holding coming v) coming (ap (λ (t : Option Turn). turn_listed t) a.turn_is) r.reads);
      due = held (λ h. IfSome h (IsDue told v.stage)) tt;
      passed = held (λ h. IsPassed h v.behind asked) (a.passed v.behind r.passed);
      at = held (λ h. position_of told v.course ≡ position_by v.stage asked h)
          (r.at ∙ on (λ s. with_coming coming (position_at s) ≡ with_asked asked (position_at s)) a.at);
      reached = reach_on rows turns (turn ∷ [])
          ∙ ap (λ (x : Reach). with_turns rows (turn ∷ []) x) r.reached
          ∙ on (λ s. with_turns rows (turn ∷ []) (reach_at s) ≡ reach_by s asked) a.reached;
      agreed = on (λ s. IsAgreed told s asked) a.agreed;
      last = a.last;
      waits = held (λ h. IsAskedAt asked v.stage h) (on (λ s. IsAskedAt asked s None) a.due);
    }

-- it steps to an event
pub asks_event : (rows : CentreRows) (items : List Item) (told : List Arrival) (turns : List Turn)
    (turn : Turn) (event : EventKind) (stage : Stage) (asked : PendingEvent) (coming : Coming)
    (v : Talking) → v.stage ≡ stage → v.held ≡ None → IsIdle v.progress
    → (Runs rows items told turns askeds.Nothing (holding coming v)
    → Asking rows told turns turn event stage asked coming)
    → ConnStandsAt rows items told turns (holding coming v)
    → StepsBy rows items told turns (steps.Asks event) (holding coming v) (asking asked v)
asks_event rows items told turns turn event stage asked coming v at empty idle makes s =
    let r = running_idle rows items told turns (holding coming v) idle s in
    let a = makes r in
    let room : RoomBy (progresses.Running askeds.Nothing) (holding coming v) =
    subst (λ (p : Progress). RoomBy p (holding coming v)) idle s.room in (
      a.waits,
      record {
        more = turn ∷ [];
        stands = record {
          rows_are = s.rows_are;
          peer = s.peer;
          goes = runs_asking rows items told turns turn event stage asked coming v at empty a r;
          room = record { room = room.room; unsaid = room.unsaid };
        };
        asks_are = append-nil (asks_at rows turns turn) ∙ a.asks_are;
        said = sym (append-nil (pending_of v))
            ∙ ap (λ (os : List ℕ). pending_of v ++ os)
            (sym (append-nil (quiet_at rows (setup_after told) turns turn)
            ∙ a.quiet (setup_after told)));
      },
    )

-- ---- it ends

-- all messages that are answered at once were told, and an offer that was declined
pub record HasToldAll (items : List Item) (told : List Arrival) (end : ConnEnd) : Type 0 where
  pub answered : answers_to called told ≡ answers_to called (reading_of (text_given items)).told
  pub fixed : end ≡ conn_ends.Declined
      → (setup_after told ≡ setup_after (reading_of (text_given items)).told)
      × (is_some (first_in connect_in (reading_of (text_given items)).told) ≡ true)

-- what is to hold of a turn that ends the connection, and of the octets that were said
pub record Ending (rows : CentreRows) (items : List Item) (told : List Arrival) (turns : List Turn)
    (turn : Turn) (end : ConnEnd) (octets : List ℕ) (coming : Coming) : Type 0 where
  pub turn_is : turn_coming coming ≡ Some turn
  pub is_last : is_last rows turn ≡ true
  pub cause : end_at (reading_of (text_given items)).broken turn ≡ Some end
  pub asks_are : asks_at rows turns turn ≡ []
  pub said : quiet_at rows (setup_after told) turns turn ≡ octets
  pub told_all : HasToldAll items told end

-- how it stands then
pub record Ended (end : ConnEnd) (octets : List ℕ) (old new : Talking) : Type 0 where
  pub rows : new.rows ≡ old.rows
  pub stage : new.stage ≡ old.stage
  pub progress : new.progress ≡ progresses.Ended end
  pub behind : new.behind ≡ behinds.Nothing
  pub held : new.held ≡ None
  pub said : pending_of new ≡ pending_of old ++ octets

ended_by : (rows : CentreRows) (items : List Item) (told : List Arrival) (turns : List Turn)
    (turn : Turn) (end : ConnEnd) (octets : List ℕ) (coming : Coming) (v : Talking)
    → Ending rows items told turns turn end octets coming
    → Runs rows items told turns askeds.Nothing (holding coming v)
    → IsReadToEnd rows items told (turns ++ turn ∷ []) end
ended_by rows items told turns turn end octets coming v e r =
    let f = seen_front rows items told turns askeds.Nothing (holding coming v) r in
    let is : turn_listed (turn_coming coming) ≡ turn ∷ [] =
    ap (λ (t : Option Turn). turn_listed t) e.turn_is in
    let b : BringsEnd rows items (turns ++ turn ∷ []) end = record {
      last = turn;
      ends = ends_with rows turns turn (ap (λ (x : Reach). x.ending) r.reached);
      is = e.is_last;
      cause = e.cause;
      rest = f.0;
      all = f.1 ∙ ap (λ (ts : List Turn). (turns ++ ts) ++ f.0) is;
    } in
    record {
      done = items;
      dropped = [];
      items_are = sym (append-nil items);
      answered = e.told_all.answered;
      fixed = e.told_all.fixed;
      by_peer = brought_end rows items (turns ++ turn ∷ []) end b;
      whole = brought_whole rows items (turns ++ turn ∷ []) end b;
    }

-- it steps to its end
pub ends_step : (rows : CentreRows) (items : List Item) (told : List Arrival) (turns : List Turn)
    (turn : Turn) (end : ConnEnd) (octets : List ℕ) (coming : Coming) (v new : Talking)
    → IsIdle v.progress → Ended end octets v new
    → (Runs rows items told turns askeds.Nothing (holding coming v)
    → Ending rows items told turns turn end octets coming)
    → ConnStandsAt rows items told turns (holding coming v)
    → StepsBy rows items told turns steps.Ends (holding coming v) new
ends_step rows items told turns turn end octets coming v new idle n makes s =
    let r = running_idle rows items told turns (holding coming v) idle s in
    let e = makes r in
    let on : (P : Progress → Type 0) → P (progresses.Ended end) → P new.progress =
    λ P p. subst P (sym n.progress) p in (
      on (λ p. HasEnded p) tt,
      record {
        more = turn ∷ [];
        stands = record {
          rows_are = n.rows ∙ s.rows_are;
          peer = subst (λ (x : Stage). IfSome (stage_peer x) (IsPeer rows)) (sym n.stage) s.peer;
          goes = on (λ p. GoesBy p rows items told (turns ++ turn ∷ []) new) (
            ended_by rows items told turns turn end octets coming v e r,
            record { read = n.behind; acted = n.held },
          );
          room = on (λ p. RoomBy p new) tt;
        };
        asks_are = append-nil (asks_at rows turns turn) ∙ e.asks_are;
        said = n.said ∙ ap (λ (os : List ℕ). pending_of v ++ os)
            (sym (append-nil (quiet_at rows (setup_after told) turns turn) ∙ e.said));
      },
    )

-- ---- it goes on

-- what is to hold where nothing is asked and nothing ends: no turn, or a pause with none open
pub record Passing (rows : CentreRows) (turns more : List Turn) (stage : Stage)
    (coming : Coming) : Type 0 where
  pub turns_are : turn_listed (turn_coming coming) ≡ more
  pub at : with_coming coming (position_at stage) ≡ position_at stage
  pub reached : with_turns rows more (reach_at stage) ≡ reach_at stage
  pub asks_are : asks_behind rows turns more ≡ []
  pub quiet : (setup : AssociationSetup) → quiet_behind rows setup turns more ≡ []

runs_passing : (rows : CentreRows) (items : List Item) (told : List Arrival) (turns more : List Turn)
    (coming : Coming) (v : Talking) → v.held ≡ None
    → Passing rows turns more v.stage coming
    → Runs rows items told turns askeds.Nothing (holding coming v)
    → Runs rows items told (turns ++ more) askeds.Nothing v
runs_passing rows items told turns more coming v empty a r =
    let held : (P : Option Coming → Type 0) → P None → P v.held = λ P p. subst P (sym empty) p in
    record {
      stands = r.stands;
      reads = held (λ h. HasRead items told ((turns ++ more) ++ turns_held h) v)
          (has_read items told turns more v.held v.progress (holding coming v) coming a.turns_are
          r.reads);
      due = held (λ h. IfSome h (IsDue told v.stage)) tt;
      passed = held (λ h. IsPassed h v.behind askeds.Nothing) tt;
      at = held (λ h. position_of told v.course ≡ position_by v.stage askeds.Nothing h)
          (r.at ∙ a.at);
      reached = reach_on rows turns more ∙ ap (λ (x : Reach). with_turns rows more x) r.reached
          ∙ a.reached;
      agreed = r.agreed;
      last = tt;
      waits = tt;
    }

-- it steps on
pub goes_step : (rows : CentreRows) (items : List Item) (told : List Arrival)
    (turns more : List Turn) (coming : Coming) (v : Talking) → v.held ≡ None
    → IsIdle v.progress
    → (Runs rows items told turns askeds.Nothing (holding coming v)
    → Passing rows turns more v.stage coming)
    → ConnStandsAt rows items told turns (holding coming v)
    → StepsBy rows items told turns steps.GoesOn (holding coming v) v
goes_step rows items told turns more coming v empty idle makes s =
    let r = running_idle rows items told turns (holding coming v) idle s in
    let a = makes r in
    let on : (P : Progress → Type 0) → P (progresses.Running askeds.Nothing) → P v.progress =
    λ P p. subst P (sym idle) p in
    let runs = runs_passing rows items told turns more coming v empty a r in
    let room : RoomBy (progresses.Running askeds.Nothing) (holding coming v) =
    subst (λ (p : Progress). RoomBy p (holding coming v)) idle s.room in
    record {
      later = [];
      more = more;
      stands = record {
        rows_are = s.rows_are;
        peer = s.peer;
        goes = on (λ p. GoesBy p rows items (told ++ []) (turns ++ more) v)
            (subst (λ (ts : List Arrival). Runs rows items ts (turns ++ more) askeds.Nothing v)
            (sym (append-nil told)) runs);
        room = on (λ p. RoomBy p v) (record { room = room.room; unsaid = room.unsaid });
      };
      asks_are = a.asks_are;
      quiet = a.quiet;
      said = sym (append-nil (pending_of v));
    }
