-- Where a connection stands at its start, and behind what is taken in, sent or given up.
use Rattle.std.proofs.Common.{◌≡◌, ℕ, ◌+◌, ◌≤◌, Bool, true, false, List, [], ◌∷◌, ◌++◌}
use Rattle.std.proofs.Common.{Option, Some, None, MatchOption, refl, sym, ap, subst, ◌∙◌}
use Rattle.std.proofs.Common.{inl, inr, ◌≢◌, ◌==◌, length, arith, eqb-true}
use Rattle.std.specs.Prelude.{Vec, vec_len, vec_capacity, ◌⊎◌, MatchBool, IfSome}
use Rattle.std.specs.declared.alloc.Global.{Global}
use Rattle.std.proofs.lemmas.List.{append-nil, nil_from_length}
use Rattle.bilateral.specs.Rows.{CentreRows}
use Rattle.stack_assoc.specs.declared.messages.fault.StackFault.{StackFault}
use Rattle.stack_assoc.specs.declared.input.StackState.TheVariants as states
use Rattle.stack_assoc.specs.declared.end_state.EndState.{EndState}
use Rattle.stack_assoc.specs.declared.end_state.EndState.TheVariants as standings
use Rattle.stack_assoc.specs.Arrivals.{Arrival, called}
use Rattle.stack_assoc.specs.Courses.{Course, CourseStands, IsCourseSettled, is_offered, state_by, state_with}
use Rattle.stack_assoc.specs.Courses.{stack_state_of}
use Rattle.tase_conn.specs.Map.Inputs.{Item, piece, idle, ended, given_octets, text_given}
use Rattle.tase_conn.specs.Map.Readings.{Reading, reading_of}
use Rattle.tase_conn.specs.Map.Turns.{Turn, turns_of}
use Rattle.tase_conn.proofs.OfMap.ReadingLaws.{reading, reading_only}
use Rattle.tase_conn.proofs.OfMap.TurnOrder.{nothing_said}
use Rattle.tase_conn.specs.declared.stage.ConnEnd.{ConnEnd}
use Rattle.tase_conn.specs.declared.stage.Stage.{Stage}
use Rattle.tase_conn.specs.declared.stage.Stage.TheVariants as stages
use Rattle.tase_conn.specs.declared.stage.Behind.{Behind}
use Rattle.tase_conn.specs.declared.stage.Behind.TheVariants as behinds
use Rattle.tase_conn.specs.declared.stage.Coming.{Coming}
use Rattle.tase_conn.specs.declared.stage.PendingEvent.{PendingEvent}
use Rattle.tase_conn.specs.declared.stage.PendingEvent.TheVariants as askeds
use Rattle.tase_conn.specs.declared.stage.Progress.{Progress}
use Rattle.tase_conn.specs.declared.stage.Progress.TheVariants as progresses
use Rattle.tase_conn.specs.Talking.{Talking, IsFree, MayLeave, IsResting, is_running}
use Rattle.tase_conn.specs.Talking.{is_open_stage, stage_peer, first_filled, next_pending}
use Rattle.tase_conn.specs.Places.{turns_held, BeginsTurns, IsDone, IsWithin, behind_of, ReadsBy}
use Rattle.tase_conn.specs.Places.{standing_at, Position, position_of, Runs, GoesBy, HasAbortRoom, RoomBy}
use Rattle.tase_conn.specs.Places.{ConnStandsAt, IsPlaced, IsPeer}
use Rattle.tase_conn.specs.Answering.{parting_octets}
use Rattle.tase_conn.specs.Leaving.{Parts, IsLeft}
use Rattle.tase_conn.proofs.LastTurns.{text_on, ends_on}

-- a connection, by all that is told of it
abbrev pub talking : CentreRows → Course → Option Coming → Behind → Stage → Progress → List ℕ
    → Vec ℕ Global → Talking
talking rows course held behind stage progress out farewell = record {
  rows = rows;
  course = course;
  held = held;
  behind = behind;
  stage = stage;
  progress = progress;
  out = out;
  farewell = farewell;
}

-- ---- with or without a fault

pub match_clear : (A : Type 0) (B : StackFault → Type 0) (f : Option StackFault) → f ≡ None
    → MatchOption f A B → A
match_clear A B None e m = m
match_clear A B (Some f) e m = absurd cc

pub clear_match : (A : Type 0) (B : StackFault → Type 0) (f : Option StackFault) → f ≡ None
    → A → MatchOption f A B
clear_match A B None e a = a
clear_match A B (Some f) e a = absurd cc

-- ---- what was read was read, whatever else changes

reads_by_moved : (b : Behind) (items : List Item) (told : List Arrival) (seen : List Turn)
    (old new : Talking) → (IsCourseSettled old.course → IsCourseSettled new.course) → new.behind ≡ old.behind
    → ReadsBy b items told seen old → ReadsBy b items told seen new
reads_by_moved behinds.Nothing items told seen old new settled behind r = record {
  told_is = r.told_is;
  unbroken = r.unbroken;
  seen_is = r.seen_is;
  settled = settled r.settled;
}
reads_by_moved behinds.Pause items told seen old new settled behind r = record {
  done = r.done;
  item = r.item;
  is = r.is;
  behind = behind ∙ r.behind;
  later = r.later;
  told_is = r.told_is;
  unbroken = r.unbroken;
  seen_is = r.seen_is;
}
reads_by_moved behinds.End items told seen old new settled behind r = record {
  done = r.done;
  item = r.item;
  is = r.is;
  behind = behind ∙ r.behind;
  later = r.later;
  told_is = r.told_is;
  unbroken = r.unbroken;
  seen_is = r.seen_is;
}

pub reads_moved : (f : Option StackFault) (b : Behind) (items : List Item) (told : List Arrival)
    (seen : List Turn) (old new : Talking) → (IsCourseSettled old.course → IsCourseSettled new.course)
    → new.behind ≡ old.behind
    → MatchOption f (ReadsBy b items told seen old) (λ fault. BeginsTurns seen (turns_of items))
    → MatchOption f (ReadsBy b items told seen new) (λ fault. BeginsTurns seen (turns_of items))
reads_moved None b items told seen old new settled behind r =
    reads_by_moved b items told seen old new settled behind r
reads_moved (Some fault) b items told seen old new settled behind r = r

-- ---- at the start

read_none : reading_of [] ≡ reading [] None
read_none = reading_only [] [] None
    (nothing_said.0, record { messages = []; said = nothing_said.1; tell = tt })

waiting_alone : (f : Option StackFault) (s : EndState) → state_with f s ≡ states.Waiting
    → (f ≡ None) × (s ≡ standings.Waiting)
waiting_alone None standings.Waiting e = (refl, refl)
waiting_alone None standings.Offered e = absurd cc
waiting_alone None standings.BadlyOffered e = absurd cc
waiting_alone None standings.Accepted e = absurd cc
waiting_alone None standings.Finishing e = absurd cc
waiting_alone None standings.Closed e = absurd cc
waiting_alone (Some f) s e = absurd cc

abbrev pub starting : CentreRows → Course → List ℕ → Vec ℕ Global → Talking
starting rows course out farewell =
    talking rows course None behinds.Nothing stages.Early (progresses.Running askeds.Nothing) out
    farewell

pub started : (rows : CentreRows) (course : Course) (out : List ℕ) (farewell : Vec ℕ Global)
    → CourseStands called [] [] course → IsCourseSettled course → stack_state_of course ≡ states.Waiting
    → vec_len farewell + 64 ≤ vec_capacity farewell → farewell.items ≡ []
    → ConnStandsAt rows [] [] [] (starting rows course out farewell)
started rows course out farewell stands settled waiting room empty =
    let w = waiting_alone course.fault course.standing waiting in
    let done : IsDone [] [] [] (starting rows course out farewell) = record {
      told_is = ap (λ (r : Reading). r.told) (sym read_none);
      unbroken = ap (λ (r : Reading). r.broken) read_none;
      seen_is = refl;
      settled = settled;
    } in
    record {
      rows_are = refl;
      peer = tt;
      goes = record {
        stands = stands;
        reads = clear_match (IsDone [] [] [] (starting rows course out farewell))
            (λ fault. BeginsTurns [] (turns_of [])) course.fault w.0 done;
        due = tt;
        passed = tt;
        at = rw (w.0, w.1) refl;
        reached = refl;
        agreed = tt;
        waits = tt;
        last = tt;
      };
      room = record { room = room; unsaid = empty };
    }

-- ---- an item more

read_item : (item : Item) (items : List Item) (told : List Arrival) (seen : List Turn) (v : Talking)
    → IsWithin items told seen v → ReadsBy (behind_of item) items told seen v
read_item (piece octets) items told seen v w = w
read_item idle items told seen v w = w
read_item ended items told seen v w = w

abbrev pub taking : Talking → Item → Course → Talking
taking old item course = record old { course = course; behind = behind_of item }

-- nothing of it is read yet
nothing_read : (items : List Item) (item : Item) (told : List Arrival) (seen : List Turn)
    (old : Talking) (course : Course) → IsDone items told seen old
    → IsWithin (items ++ item ∷ []) told seen (taking old item course)
nothing_read items item told seen old course d = record {
  done = items;
  item = item;
  is = refl;
  behind = refl;
  later = [];
  told_is = d.told_is ∙ sym (append-nil (reading_of (text_given items)).told);
  unbroken = d.unbroken;
  seen_is = d.seen_is ∙ sym (append-nil (turns_of items));
}

-- an end that rests waits for its offer, or its association stands
resting_so : (stage : Stage) (s : EndState) → s ≡ standing_at stage
    → (s ≡ standings.Waiting) ⊎ (s ≡ standings.Accepted)
resting_so stages.Early s e = inl e
resting_so (stages.Open peer detail) s e = inr e
resting_so (stages.Closed peer) s e = inr e

still_clear : (f : Option StackFault) (s : EndState)
    → (s ≡ standings.Waiting) ⊎ (s ≡ standings.Accepted) → state_with f s ≡ state_by s → f ≡ None
still_clear None s so e = refl
still_clear (Some f) s (inl w) e =
    absurd (let x : states.Ended ≡ states.Waiting = e ∙ ap state_by w in cc)
still_clear (Some f) s (inr w) e =
    absurd (let x : states.Ended ≡ states.Accepted = e ∙ ap state_by w in cc)

not_offered : (s : EndState) → (s ≡ standings.Waiting) ⊎ (s ≡ standings.Accepted)
    → is_offered s ≡ false
not_offered s (inl e) = ap is_offered e
not_offered s (inr e) = ap is_offered e

-- what feeding ensures
pub record Fed (items : List Item) (item : Item) (told : List Arrival) (old new : Course) :
    Type 0 where
  pub stands : CourseStands called (text_given items) told old
      → CourseStands called (text_given items ++ given_octets item) told new
  pub standing : new.standing ≡ old.standing
  pub state : stack_state_of new ≡ stack_state_of old

rests_clear : (stage : Stage) (old new : Course) → old.fault ≡ None
    → old.standing ≡ standing_at stage → new.standing ≡ old.standing
    → stack_state_of new ≡ stack_state_of old → new.fault ≡ None
rests_clear stage old new clear is standing state =
    still_clear new.fault new.standing (resting_so stage new.standing (standing ∙ is))
    (state ∙ ap (λ (f : Option StackFault). state_with f old.standing) clear
    ∙ ap state_by (sym standing))

pub same_position : (told : List Arrival) (old new : Course) → new.fault ≡ old.fault
    → new.standing ≡ old.standing → position_of told new ≡ position_of told old
same_position told old new e f = rw (e, f) refl

runs_taken : (rows : CentreRows) (items : List Item) (told : List Arrival) (turns : List Turn)
    (item : Item) (centre : CentreRows) (course : Course) (held : Option Coming)
    (behind : Behind) (stage : Stage) (progress : Progress) (out : List ℕ)
    (farewell : Vec ℕ Global) (fed : Course) → behind ≡ behinds.Nothing → held ≡ None
    → Runs rows items told turns askeds.Nothing
    (talking centre course held behind stage progress out farewell)
    → Fed items item told course fed
    → Runs rows (items ++ item ∷ []) told turns askeds.Nothing
    (talking centre fed held (behind_of item) stage progress out farewell)
runs_taken rows items told turns item centre course None behinds.Nothing stage progress out
    farewell fed b h r f =
    let old : Talking =
    talking centre course None behinds.Nothing stage progress out farewell in
    let new : Talking =
    talking centre fed None (behind_of item) stage progress out farewell in
    let is_clear : course.fault ≡ None = ap (λ (p : Position). p.fault) r.at in
    let done : IsDone items told (turns ++ []) old = match_clear
    (IsDone items told (turns ++ []) old)
    (λ fault. BeginsTurns (turns ++ []) (turns_of items)) course.fault is_clear r.reads in
    let clear = rests_clear stage course fed is_clear
    (ap (λ (p : Position). p.standing) r.at) f.standing f.state in
    record {
      stands = subst (λ (os : List ℕ). CourseStands called os told fed) (sym (text_on items item))
          (f.stands r.stands);
      reads = clear_match (ReadsBy (behind_of item) (items ++ item ∷ []) told (turns ++ []) new)
          (λ fault. BeginsTurns (turns ++ []) (turns_of (items ++ item ∷ []))) fed.fault clear
          (read_item item (items ++ item ∷ []) told (turns ++ []) new
          (nothing_read items item told (turns ++ []) old fed done));
      due = tt;
      passed = tt;
      at = same_position told course fed (clear ∙ sym is_clear) f.standing ∙ r.at;
      reached = r.reached;
      agreed = r.agreed;
      waits = tt;
      last = tt;
    }
runs_taken rows items told turns item centre course (Some coming) b stage progress out farewell
    fed e h r f = absurd cc
runs_taken rows items told turns item centre course None behinds.Pause stage progress out farewell
    fed e h r f = absurd cc
runs_taken rows items told turns item centre course None behinds.End stage progress out farewell
    fed e h r f = absurd cc

goes_taken : (progress : Progress) (rows : CentreRows) (items : List Item) (told : List Arrival)
    (turns : List Turn) (item : Item) (old : Talking) (fed : Course) → IsFree progress
    → is_running progress ≡ true → old.behind ≡ behinds.Nothing → old.held ≡ None
    → GoesBy progress rows items told turns old → Fed items item told old.course fed
    → GoesBy progress rows (items ++ item ∷ []) told turns (taking old item fed)
goes_taken (progresses.Running askeds.Nothing) rows items told turns item old fed free run b h g
    f = runs_taken rows items told turns item old.rows old.course old.held old.behind old.stage
    old.progress old.out old.farewell fed b h g f
goes_taken (progresses.Running (askeds.Opening peer granted)) rows items told turns item old fed
    free run b h g f = absurd free
goes_taken (progresses.Running (askeds.Requesting invoke)) rows items told turns item old fed free
    run b h g f = absurd free
goes_taken (progresses.Running askeds.Taking) rows items told turns item old fed free run b h g
    f = absurd free
goes_taken (progresses.Running (askeds.Closing cause)) rows items told turns item old fed free run
    b h g f = absurd free
goes_taken progresses.Refused rows items told turns item old fed free run b h g f = absurd cc
goes_taken (progresses.Leaving end asked) rows items told turns item old fed free run b h g f =
    absurd cc
goes_taken (progresses.Ended end) rows items told turns item old fed free run b h g f = absurd cc
goes_taken (progresses.Cut end) rows items told turns item old fed free run b h g f = absurd cc

room_kept : (progress : Progress) (old new : Talking) → (HasAbortRoom old → HasAbortRoom new)
    → RoomBy progress old → RoomBy progress new
room_kept (progresses.Running asked) old new keep r = keep r
room_kept progresses.Refused old new keep r = keep r
room_kept (progresses.Leaving end asked) old new keep r = keep r
room_kept (progresses.Ended end) old new keep r = tt
room_kept (progresses.Cut end) old new keep r = tt

-- it was taken in
pub taken_in : (rows : CentreRows) (items : List Item) (told : List Arrival) (turns : List Turn)
    (item : Item) (old : Talking) (fed : Course) → IsResting old → is_running old.progress ≡ true
    → Fed items item told old.course fed → ConnStandsAt rows items told turns old
    → ConnStandsAt rows (items ++ item ∷ []) told turns (taking old item fed)
taken_in rows items told turns item old fed rest run f s = record {
  rows_are = s.rows_are;
  peer = s.peer;
  goes = goes_taken old.progress rows items told turns item old fed rest.free run rest.read
      rest.acted s.goes f;
  room = room_kept old.progress old (taking old item fed)
      (λ r. record { room = r.room; unsaid = r.unsaid }) s.room;
}

goes_dropped : (progress : Progress) (rows : CentreRows) (items : List Item) (told : List Arrival)
    (turns : List Turn) (item : Item) (v : Talking) → is_running progress ≡ false
    → GoesBy progress rows items told turns v
    → GoesBy progress rows (items ++ item ∷ []) told turns v
goes_dropped (progresses.Running asked) rows items told turns item v e g = absurd cc
goes_dropped progresses.Refused rows items told turns item v e g = tt
goes_dropped (progresses.Leaving end asked) rows items told turns item v e g = g
goes_dropped (progresses.Ended end) rows items told turns item v e g =
    (ends_on rows items told turns item end g.0, g.1)
goes_dropped (progresses.Cut end) rows items told turns item v e g = g

-- it was dropped, once the connection was left or has ended
pub dropped : (rows : CentreRows) (items : List Item) (told : List Arrival) (turns : List Turn)
    (item : Item) (v : Talking) → is_running v.progress ≡ false
    → ConnStandsAt rows items told turns v → ConnStandsAt rows (items ++ item ∷ []) told turns v
dropped rows items told turns item v e s = record {
  rows_are = s.rows_are;
  peer = s.peer;
  goes = goes_dropped v.progress rows items told turns item v e s.goes;
  room = s.room;
}

-- ---- nothing for now, and nothing more

no_octets : (items : List Item) (item : Item) (told : List Arrival) (course : Course)
    → given_octets item ≡ [] → Fed items item told course course
no_octets items item told course e = record {
  stands = λ s. subst (λ (os : List ℕ). CourseStands called os told course)
      (sym (append-nil (text_given items)) ∙ ap (λ (os : List ℕ). text_given items ++ os) (sym e)) s;
  standing = refl;
  state = refl;
}

-- an item without octets was taken in
pub idle_taken : (rows : CentreRows) (items : List Item) (told : List Arrival) (turns : List Turn)
    (item : Item) (old : Talking) → given_octets item ≡ [] → IsResting old
    → is_running old.progress ≡ true → ConnStandsAt rows items told turns old
    → ConnStandsAt rows (items ++ item ∷ []) told turns (record old { behind = behind_of item })
idle_taken rows items told turns item old e rest run s =
    taken_in rows items told turns item old old.course rest run
    (no_octets items item told old.course e) s

-- what its end needs so that it may be fed
settled_so : (rows : CentreRows) (items : List Item) (told : List Arrival) (turns : List Turn)
    (centre : CentreRows) (course : Course) (held : Option Coming) (behind : Behind)
    (stage : Stage) (progress : Progress) (out : List ℕ) (farewell : Vec ℕ Global)
    → behind ≡ behinds.Nothing → held ≡ None → Runs rows items told turns askeds.Nothing
    (talking centre course held behind stage progress out farewell)
    → IsCourseSettled course × (is_offered course.standing ≡ false)
settled_so rows items told turns centre course None behinds.Nothing stage progress out farewell
    b h r =
    let v : Talking =
    talking centre course None behinds.Nothing stage progress out farewell in
    let done : IsDone items told (turns ++ []) v = match_clear (IsDone items told (turns ++ []) v)
    (λ fault. BeginsTurns (turns ++ []) (turns_of items)) course.fault
    (ap (λ (p : Position). p.fault) r.at) r.reads in (
      done.settled,
      not_offered course.standing
          (resting_so stage course.standing (ap (λ (p : Position). p.standing) r.at)),
    )
settled_so rows items told turns centre course (Some coming) b stage progress out farewell e h r =
    absurd cc
settled_so rows items told turns centre course None behinds.Pause stage progress out farewell e h
    r = absurd cc
settled_so rows items told turns centre course None behinds.End stage progress out farewell e h r =
    absurd cc

settled_by : (progress : Progress) (rows : CentreRows) (items : List Item) (told : List Arrival)
    (turns : List Turn) (v : Talking) → IsFree progress → is_running progress ≡ true
    → v.behind ≡ behinds.Nothing → v.held ≡ None → GoesBy progress rows items told turns v
    → IsCourseSettled v.course × (is_offered v.course.standing ≡ false)
settled_by (progresses.Running askeds.Nothing) rows items told turns v f run b h g =
    settled_so rows items told turns v.rows v.course v.held v.behind v.stage v.progress v.out
    v.farewell b h g
settled_by (progresses.Running (askeds.Opening peer granted)) rows items told turns v f run b h g =
    absurd f
settled_by (progresses.Running (askeds.Requesting invoke)) rows items told turns v f run b h g =
    absurd f
settled_by (progresses.Running askeds.Taking) rows items told turns v f run b h g = absurd f
settled_by (progresses.Running (askeds.Closing cause)) rows items told turns v f run b h g =
    absurd f
settled_by progresses.Refused rows items told turns v f run b h g = absurd cc
settled_by (progresses.Leaving end asked) rows items told turns v f run b h g = absurd cc
settled_by (progresses.Ended end) rows items told turns v f run b h g = absurd cc
settled_by (progresses.Cut end) rows items told turns v f run b h g = absurd cc

-- where it rests and reads on, its end may be fed
pub may_feed : (v : Talking) → IsResting v → is_running v.progress ≡ true → IsPlaced v
    → IsCourseSettled v.course × (is_offered v.course.standing ≡ false)
may_feed v rest run p = settled_by v.progress p.rows p.items p.told p.turns v rest.free run
    rest.read rest.acted p.stands.goes

-- ---- whatever is said or sent

abbrev pub apart : Talking → Progress → List ℕ → Vec ℕ Global → Talking
apart v progress out farewell = record v { progress = progress; out = out; farewell = farewell }

pub runs_apart : (rows : CentreRows) (items : List Item) (told : List Arrival) (turns : List Turn)
    (asked : PendingEvent) (v : Talking) (progress : Progress) (out : List ℕ) (farewell : Vec ℕ Global)
    → Runs rows items told turns asked v
    → Runs rows items told turns asked (apart v progress out farewell)
runs_apart rows items told turns asked v progress out farewell r = record {
  stands = r.stands;
  reads = reads_moved v.course.fault v.behind items told (turns ++ turns_held v.held) v
      (apart v progress out farewell) (λ s. s) refl r.reads;
  due = r.due;
  passed = r.passed;
  at = r.at;
  reached = r.reached;
  agreed = r.agreed;
  waits = r.waits;
  last = r.last;
}

goes_apart : (by : Progress) (rows : CentreRows) (items : List Item) (told : List Arrival)
    (turns : List Turn) (v : Talking) (progress : Progress) (out : List ℕ)
    (farewell : Vec ℕ Global) → GoesBy by rows items told turns v
    → GoesBy by rows items told turns (apart v progress out farewell)
goes_apart (progresses.Running asked) rows items told turns v progress out farewell g =
    runs_apart rows items told turns asked v progress out farewell g
goes_apart progresses.Refused rows items told turns v progress out farewell g = tt
goes_apart (progresses.Leaving end asked) rows items told turns v progress out farewell g = g
goes_apart (progresses.Ended end) rows items told turns v progress out farewell g =
    (g.0, record { read = g.1.read; acted = g.1.acted })
goes_apart (progresses.Cut end) rows items told turns v progress out farewell g =
    record { read = g.read; acted = g.acted }

-- it stands where it stood, whatever was sent
pub sent_on : (rows : CentreRows) (items : List Item) (told : List Arrival) (turns : List Turn)
    (old new : Talking) → new ≡ record old { out = new.out; farewell = new.farewell }
    → (HasAbortRoom old → HasAbortRoom new) → ConnStandsAt rows items told turns old
    → ConnStandsAt rows items told turns new
sent_on rows items told turns old new is keep s =
    let moved : Talking = apart old old.progress new.out new.farewell in
    subst (λ (v : Talking). ConnStandsAt rows items told turns v) (sym is) (record {
      rows_are = s.rows_are;
      peer = s.peer;
      goes = goes_apart old.progress rows items told turns old old.progress new.out new.farewell
          s.goes;
      room = room_kept old.progress old moved
          (λ r. subst (λ (v : Talking). HasAbortRoom v) is (keep r)) s.room;
    })

-- ---- given up

pub room_left : (progress : Progress) (v : Talking) → MayLeave progress → RoomBy progress v
    → HasAbortRoom v
room_left (progresses.Running asked) v m r = r
room_left progresses.Refused v m r = r
room_left (progresses.Leaving end asked) v m r = r
room_left (progresses.Ended end) v m r = absurd m
room_left (progresses.Cut end) v m r = absurd m

-- where it may be given up there is room for the octets of an abort
pub may_part : (v : Talking) → MayLeave v.progress → IsPlaced v → HasAbortRoom v
may_part v m p = room_left v.progress v m p.stands.room

-- it has ended
pub parted_stands : (rows : CentreRows) (items : List Item) (told : List Arrival)
    (turns : List Turn) (end : ConnEnd) (octets : List ℕ) (old new : Talking)
    → Parts (progresses.Cut end) octets old new → old.rows ≡ rows
    → IfSome (stage_peer old.stage) (IsPeer rows) → ConnStandsAt rows items told turns new
parted_stands rows items told turns end octets old new p rows_are peer =
    subst (λ (v : Talking). ConnStandsAt rows items told turns v) (sym p.is) (record {
      rows_are = rows_are;
      peer = peer;
      goes = record { read = refl; acted = refl };
      room = tt;
    })

left_by : (b : Bool) (rows : CentreRows) (items : List Item) (told : List Arrival)
    (turns : List Turn) (end : ConnEnd) (old new : Talking) → is_open_stage old.stage ≡ b
    → HasAbortRoom old → MatchBool b (new ≡ record old { progress = progresses.Leaving end false })
    (Parts (progresses.Cut end) (parting_octets old.course end) old new)
    → ConnStandsAt rows items told turns old → ConnStandsAt rows items told turns new
left_by true rows items told turns end old new e room l s =
    subst (λ (v : Talking). ConnStandsAt rows items told turns v) (sym l) (record {
      rows_are = s.rows_are;
      peer = s.peer;
      goes = e;
      room = record { room = room.room; unsaid = room.unsaid };
    })
left_by false rows items told turns end old new e room l s =
    parted_stands rows items told turns end (parting_octets old.course end) old new l s.rows_are s.peer

-- it was left
pub left_stands : (rows : CentreRows) (items : List Item) (told : List Arrival) (turns : List Turn)
    (end : ConnEnd) (old new : Talking) → HasAbortRoom old → IsLeft end old new
    → ConnStandsAt rows items told turns old → ConnStandsAt rows items told turns new
left_stands rows items told turns end old new room l s =
    left_by (is_open_stage old.stage) rows items told turns end old new refl room l s

-- ---- as code sees it

-- the same by its fields
pub by_view : (rows : CentreRows) (items : List Item) (told : List Arrival) (turns : List Turn)
    (view old : Talking) → view ≡ old → ConnStandsAt rows items told turns old
    → ConnStandsAt rows items told turns view
by_view rows items told turns view old e s =
    subst (λ (v : Talking). ConnStandsAt rows items told turns v) (sym e) s

pub taken_view : (rows : CentreRows) (items : List Item) (told : List Arrival) (turns : List Turn)
    (item : Item) (view old : Talking) (fed : Course) → view ≡ old → IsResting old
    → is_running old.progress ≡ true → Fed items item told view.course fed
    → ConnStandsAt rows items told turns old
    → ConnStandsAt rows (items ++ item ∷ []) told turns (taking view item fed)
taken_view rows items told turns item view old fed e rest run f s =
    taken_in rows items told turns item view fed
    (subst (λ (v : Talking). IsResting v) (sym e) rest)
    (ap (λ (v : Talking). is_running v.progress) e ∙ run) f
    (by_view rows items told turns view old e s)

pub idle_view : (rows : CentreRows) (items : List Item) (told : List Arrival) (turns : List Turn)
    (item : Item) (view old : Talking) → view ≡ old → given_octets item ≡ [] → IsResting old
    → is_running old.progress ≡ true → ConnStandsAt rows items told turns old
    → ConnStandsAt rows (items ++ item ∷ []) told turns (record view { behind = behind_of item })
idle_view rows items told turns item view old e none rest run s =
    taken_view rows items told turns item view old view.course e rest run
    (no_octets items item told view.course none) s

-- ---- what was sent

-- the octets before those of an abort were cut
pub front_sent : (rows : CentreRows) (items : List Item) (told : List Arrival) (turns : List Turn)
    (view old : Talking) (out : List ℕ) → view ≡ old → ConnStandsAt rows items told turns old
    → ConnStandsAt rows items told turns (record view { out = out })
front_sent rows items told turns view old out e s =
    sent_on rows items told turns view (record view { out = out }) refl
    (λ r. record { room = r.room; unsaid = r.unsaid })
    (by_view rows items told turns view old e s)

none_sent : (out farewell : List ℕ) (n : ℕ) → out ≡ [] → farewell ≡ []
    → n ≤ length (first_filled out farewell) → n ≡ 0
none_sent out farewell n o f e =
    let l : length (first_filled out farewell) ≡ 0 =
    ap (λ (os : List ℕ). length (first_filled os farewell)) o ∙ ap (λ (os : List ℕ). length os) f in
    omega (arith, l, e)

-- those of an abort were cut, so that one was said
pub farewell_sent : (rows : CentreRows) (items : List Item) (told : List Arrival)
    (turns : List Turn) (view old : Talking) (farewell : Vec ℕ Global) (n : ℕ) → view ≡ old
    → view.out ≡ [] → n ≤ length (next_pending view) → n ≢ 0 → ConnStandsAt rows items told turns old
    → ConnStandsAt rows items told turns (record view { farewell = farewell })
farewell_sent rows items told turns view old farewell n e none few some s =
    sent_on rows items told turns view (record view { farewell = farewell }) refl
    (λ r. absurd (some (none_sent view.out view.farewell.items n none r.unsaid few)))
    (by_view rows items told turns view old e s)

pub empty_out : (out : Vec ℕ Global) (b : Bool) → b ≡ (vec_len out == 0) → b ≡ true
    → out.items ≡ []
empty_out out b e t =
    nil_from_length out.items (sym out.ok.0 ∙ eqb-true (vec_len out) 0 (sym e ∙ t))
