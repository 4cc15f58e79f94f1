-- Of a connection for which memory was wanting: it was given up, and then closed.
use Rattle.std.proofs.Common.{◌≡◌, ℕ, Bool, true, false, List, [], ◌∷◌, ◌++◌, reverse}
use Rattle.std.proofs.Common.{Option, Some, None, Ok, refl, sym, ap, subst, ◌∙◌, append_assoc}
use Rattle.std.proofs.lemmas.Bool.{false≢true}
use Rattle.stack_assoc.specs.declared.end_state.EndState.{EndState}
use Rattle.stack_assoc.specs.Arrivals.{called}
use Rattle.stack_assoc.specs.Handing.{answers_to}
use Rattle.bilateral.specs.Rows.{CentreRows}
use Rattle.tase_views.specs.Setup.{Setup}
use Rattle.tase_views.specs.History.{Past}
use Rattle.tase_views.specs.Outcomes.{IsRightOutcome, answer_of}
use Rattle.tase_views.specs.declared.event.EventKind.{EventKind}
use Rattle.tase_views.specs.declared.reply.Answer.{Answer}
use Rattle.node_core.specs.NodeState.{NodeState, with_entry}
use Rattle.tase_conn.specs.Map.Inputs.{Item}
use Rattle.tase_conn.specs.Map.Turns.{Turn}
use Rattle.tase_conn.specs.Map.Asks.{asks_of, asks_behind, up_to_last}
use Rattle.tase_conn.specs.Map.Sent.{events_by, with_event}
use Rattle.tase_conn.proofs.OfMap.AskedOn.{asks_join}
use Rattle.tase_conn.specs.declared.stage.PendingEvent.TheVariants as askeds
use Rattle.tase_conn.specs.declared.stage.ConnEnd.{ConnEnd}
use Rattle.tase_conn.specs.declared.stage.ConnEnd.TheVariants as conn_ends
use Rattle.tase_conn.specs.declared.stage.Progress.{Progress}
use Rattle.tase_conn.specs.declared.stage.Progress.TheVariants as progresses
use Rattle.tase_conn.specs.Talking.{Talking, pending_of, is_open_stage, is_running, MayLeave}
use Rattle.tase_conn.specs.Places.{IsPlaced, GoesBy, KeepsPlace, Runs, Reach}
use Rattle.tase_conn.specs.Wanting.{PassesSo, IsIdle}
use Rattle.tase_conn.specs.Leaving.{IsLeft}
use Rattle.tase_conn.specs.Answering.{unnoted}
use Rattle.conn_service.specs.Courses.Serving.{Serves, IsWaiting}
use Rattle.conn_service.specs.Courses.Cutting.{HasLeft, left_said}
use Rattle.conn_service.proofs.OfCourses.Ended.{passes_on}
use Rattle.conn_service.proofs.OfCourses.Left.{given_up, stands_by}
use Rattle.tase_conn.proofs.LastTurns.{goes_front}
use Rattle.conn_service.proofs.OfCourses.Served.{begins_turns, next_asked}
use Rattle.conn_service.proofs.OfCourses.Unnoted.{unnoted_leaves}
use Rattle.conn_service.specs.Attending.{IsServed, IsAsking, IsParting, CutsOff, ClosesLeft}
use Rattle.conn_service.specs.Courses.AnswerEnd.{end_answered}
use Rattle.conn_service.specs.Attending.{closing_said}
use Rattle.conn_service.proofs.Closed.{none_left, said_in_part}
use Rattle.conn_service.proofs.Going.{grown, placed_of}
use Rattle.conn_service.proofs.Refused.{ClosesSo}
use Rattle.conn_service.proofs.Takes.{event_behind}

-- once it was left, it is cut by its close
memory_cut : (setup : Setup) (past after : Past) (who : ℕ) (items : List Item)
    (said more : List ℕ) (whole : Bool) (standing : EndState) (others : List EventKind)
    (brought : Option ConnEnd) (old between new : Talking)
    → pending_of between ≡ pending_of old ++ more
    → asks_of setup.centre items ≡ reverse (events_by who past) ++ others
    → ClosesLeft whole conn_ends.Memory standing setup.centre past who items (said ++ more) between
    after new → CutsOff setup past who items said old brought after new
memory_cut setup past after who items said more whole standing others brought old between new
    pending asks c =
    let closing = closing_said between conn_ends.Memory in
    let said_is : (said ++ more) ++ closing ≡ said ++ (more ++ closing) =
    append_assoc said more closing in
    let left : HasLeft whole conn_ends.Memory standing setup.centre after who items
    (said ++ (more ++ closing)) None new =
    subst (λ (os : List ℕ). HasLeft whole conn_ends.Memory standing setup.centre after who items os
    None new) said_is c.left in (
      record {
        adds = record {
          added = more ++ closing;
          pending = c.pending ∙ ap (λ (os : List ℕ). os ++ closing) pending
              ∙ append_assoc (pending_of old) more closing;
        };
        end = conn_ends.Memory;
        by_node = tt;
        ended = c.ended;
        others = others;
        asks_are = asks;
        cause = tt;
        after_is = c.after_is;
        none_open = none_left whole conn_ends.Memory standing setup.centre after who items
            (said ++ (more ++ closing)) new left c.ended;
        said_is = said_in_part setup after who items (said ++ (more ++ closing)) whole
            conn_ends.Memory standing new left c.ended;
      },
      tt,
    )

-- what it says when it is left
abbrev leaving_said : Talking → List ℕ
leaving_said v = left_said v.stage v.course conn_ends.Memory

left_pending : (old new : Talking) → IsLeft conn_ends.Memory old new
    → pending_of new ≡ pending_of old ++ leaving_said old
left_pending old new left =
    (stands_by (is_open_stage old.stage) conn_ends.Memory old new refl left).pending

-- ---- for what is said

-- the answer to its event wasn't noted
pub unnoted_free : (answer : Answer) (old between : Talking) → between ≡ unnoted (Ok answer) old
    → MayLeave between.progress
unnoted_free answer old between is =
    subst (λ (p : Progress). MayLeave p) (sym (ap (λ (v : Talking). v.progress) is)) tt

pub stays_placed : (rows : CentreRows) (past : Past) (who : ℕ) (event : EventKind)
    (old between : Talking) → KeepsPlace old between → IsAsking rows past who event old
    → IsPlaced between
stays_placed rows past who event old between stays x =
    placed_of (stays rows x.0 x.2.told x.2.turns x.2.stands)

unnoted_left : (setup : Setup) (past : Past) (who : ℕ) (items : List Item) (said : List ℕ)
    (event : EventKind) (answer : Answer) (old between left : Talking)
    → IsRightOutcome setup past who event (Ok answer) → between ≡ unnoted (Ok answer) old
    → KeepsPlace old between → KeepsPlace between left → IsLeft conn_ends.Memory between left
    → Serves setup.centre past who items said (Some event) old
    → HasLeft false conn_ends.Memory old.course.standing setup.centre (with_event who event past) who
    items (said ++ leaving_said between) None left
unnoted_left setup past who items said event answer old between left right is stays on parts s =
    unnoted_leaves setup past who items said (leaving_said between) event answer conn_ends.Memory old
    left s right
    (on setup.centre items s.told s.turns (stays setup.centre items s.told s.turns s.stands))
    (subst (λ (v : Talking). IsLeft conn_ends.Memory v left) is parts)
    (left_pending between left parts ∙ ap (λ (v : Talking). pending_of v ++ leaving_said between) is)

pub unnoted_cut : (before middle after : NodeState) (who : ℕ) (items : List Item)
    (said : List ℕ) (event : EventKind) (answer : Answer) (old between left new : Talking)
    → middle ≡ with_entry before who event
    → IsRightOutcome before.setup (reverse before.history) who event (Ok answer)
    → between ≡ unnoted (Ok answer) old → KeepsPlace old between → KeepsPlace between left
    → IsLeft conn_ends.Memory between left → ClosesSo middle after who left new
    → Serves before.setup.centre (reverse before.history) who items said (Some event) old
    → CutsOff before.setup (with_event who event (reverse before.history)) who items said old
    (end_answered items (answer_of before.setup (reverse before.history) who event))
    (reverse after.history) new
unnoted_cut before middle after who items said event answer old between left new taken right is
    stays on parts closes s =
    let setup = before.setup in
    let past = reverse before.history in
    let now = with_event who event past in
    let more = leaving_said between in
    let n = next_asked setup.centre past who items said event old s in
    let closes_so : ClosesLeft false conn_ends.Memory old.course.standing setup.centre now who items
    (said ++ more) left (reverse after.history) new =
    closed_of (unnoted_left setup past who items said event answer old between left right is stays on
    parts s) in
    memory_cut setup now (reverse after.history) who items said more false old.course.standing n.0
    (end_answered items (answer_of setup past who event)) old left new
    (left_pending between left parts ∙ ap (λ (v : Talking). pending_of v ++ more) is)
    (n.1 ∙ sym (append_assoc (reverse (events_by who past)) (event ∷ []) n.0)
    ∙ ap (λ (es : List EventKind). es ++ n.0) (sym (event_behind who past event))) closes_so
  where
    grown_is : reverse middle.history ≡ with_event who event (reverse before.history)
    grown_is = grown before middle who event taken

    same : middle.setup ≡ before.setup
    same = ap (λ (m : NodeState). m.setup) taken

    closed_of : HasLeft false conn_ends.Memory old.course.standing before.setup.centre
        (with_event who event (reverse before.history)) who items (said ++ leaving_said between) None
        left → ClosesLeft false conn_ends.Memory old.course.standing before.setup.centre
        (with_event who event (reverse before.history)) who items (said ++ leaving_said between) left
        (reverse after.history) new
    closed_of h =
        subst (λ (p : Past). ClosesLeft false conn_ends.Memory old.course.standing
        before.setup.centre p who items (said ++ leaving_said between) left (reverse after.history)
        new) grown_is
        (subst (λ (x : Setup). ClosesLeft false conn_ends.Memory old.course.standing x.centre
        (reverse middle.history) who items (said ++ leaving_said between) left
        (reverse after.history) new) same
        (closes false conn_ends.Memory old.course.standing items (said ++ leaving_said between)
        (subst (λ (x : Setup). HasLeft false conn_ends.Memory old.course.standing x.centre
        (reverse middle.history) who items (said ++ leaving_said between) None left) (sym same)
        (subst (λ (p : Past). HasLeft false conn_ends.Memory old.course.standing before.setup.centre
        p who items (said ++ leaving_said between) None left) (sym grown_is) h))))

-- what its close is asked of
pub unnoted_parting : (before middle : NodeState) (who : ℕ) (event : EventKind) (answer : Answer)
    (old between left : Talking) → middle ≡ with_entry before who event
    → IsRightOutcome before.setup (reverse before.history) who event (Ok answer)
    → between ≡ unnoted (Ok answer) old → KeepsPlace old between → KeepsPlace between left
    → IsLeft conn_ends.Memory between left
    → IsAsking before.setup.centre (reverse before.history) who event old
    → IsParting middle.setup.centre (reverse middle.history) who left
unnoted_parting before middle who event answer old between left taken right is stays on parts x =
    subst (λ (p : Past). IsParting middle.setup.centre p who left)
    (sym (grown before middle who event taken))
    (subst (λ (y : Setup). IsParting y.centre (with_event who event (reverse before.history)) who
    left) (sym (ap (λ (m : NodeState). m.setup) taken)) (
      x.0,
      x.1 ++ leaving_said between,
      false,
      conn_ends.Memory,
      old.course.standing,
      unnoted_left before.setup (reverse before.history) who x.0 x.1 event answer old between left
          right is stays on parts x.2,
    ))

-- ---- for what is read

idle_of : (p : Progress) → IsWaiting p None → is_running p ≡ true
    → p ≡ progresses.Running askeds.Nothing
idle_of (progresses.Running askeds.Nothing) w e = refl
idle_of (progresses.Running (askeds.Opening peer granted)) w e = absurd w
idle_of (progresses.Running (askeds.Requesting invoke)) w e = absurd w
idle_of (progresses.Running askeds.Taking) w e = absurd w
idle_of (progresses.Running (askeds.Closing cause)) w e = absurd w
idle_of progresses.Refused w e = absurd w
idle_of (progresses.Leaving end asked) w e = absurd w
idle_of (progresses.Ended end) w e = absurd (false≢true e)
idle_of (progresses.Cut end) w e = absurd w

-- memory is taken where it runs alone
pub runs_on : (p : Progress) → (is_running p ≡ false → false ≡ true) → is_running p ≡ true
runs_on p over = by (is_running p) refl
  where
    by : (b : Bool) → is_running p ≡ b → is_running p ≡ true
    by true e = e
    by false e = absurd (false≢true (over e))

pub idle_free : (p : Progress) → IsIdle p → MayLeave p
idle_free p is = subst (λ (x : Progress). MayLeave x) (sym is) tt

-- it is served still, and some of what its link asks is left
record StillServed (rows : CentreRows) (past : Past) (who : ℕ) (items : List Item)
    (said : List ℕ) (old new : Talking) : Type 0 where
  added : List ℕ
  pending : pending_of new ≡ pending_of old ++ added
  serves : Serves rows past who items (said ++ added) None new
  others : List EventKind
  asks_are : asks_of rows items ≡ reverse (events_by who past) ++ others

-- the events so far are the first that the input asks
front_of : (rows : CentreRows) (past : Past) (who : ℕ) (items : List Item)
    (said : List ℕ) (v : Talking) → (s : Serves rows past who items said None v)
    → v.progress ≡ progresses.Running askeds.Nothing
    → (rest : List EventKind) × (asks_of rows items ≡ reverse (events_by who past) ++ rest)
front_of rows past who items said v s e =
    let r : Runs rows items s.told s.turns askeds.Nothing v =
    subst (λ (x : Progress). GoesBy x rows items s.told s.turns v) e s.stands.goes in
    let f = begins_turns rows items s.told s.turns askeds.Nothing v r in (
      asks_behind rows s.turns (up_to_last rows f.0),
      ap (λ (ts : List Turn). asks_behind rows [] (up_to_last rows ts)) f.1
          ∙ ap (λ (ts : List Turn). asks_behind rows [] ts)
          (goes_front rows s.turns f.0 (ap (λ (x : Reach). x.ending) r.reached))
          ∙ asks_join rows [] s.turns (up_to_last rows f.0)
          ∙ ap (λ (es : List EventKind). es ++ asks_behind rows s.turns (up_to_last rows f.0))
          (ap (λ (ts : List Turn). asks_behind rows [] ts) s.are ∙ sym s.asked),
    )

still_served : (rows : CentreRows) (past : Past) (who : ℕ) (items : List Item) (said : List ℕ)
    (old between : Talking) → is_running old.progress ≡ true → PassesSo old between
    → IsIdle between.progress → between.stage ≡ old.stage
    → (s : Serves rows past who items said None old)
    → StillServed rows past who items said old between
still_served rows past who items said old between runs passes idle stage s =
    let p = passes rows items s.told s.turns s.stands in
    let added = answers_to called p.later in
    let now = passes_on rows past who items said added old between s
    (idle_of old.progress s.waits runs) stage idle p p.said in
    let f = front_of rows past who items (said ++ added) between now idle in
    record {
      added = added;
      pending = p.said;
      serves = now;
      others = f.0;
      asks_are = f.1;
    }

given_left : (rows : CentreRows) (past : Past) (who : ℕ) (items : List Item) (said : List ℕ)
    (between left : Talking) → IsIdle between.progress → KeepsPlace between left
    → IsLeft conn_ends.Memory between left → Serves rows past who items said None between
    → HasLeft true conn_ends.Memory between.course.standing rows past who items
    (said ++ leaving_said between) None left
given_left rows past who items said between left idle on parts s =
    given_up rows past who items said (leaving_said between) conn_ends.Memory between left s idle
    (on rows items s.told s.turns s.stands) parts (left_pending between left parts)

pub given_cut : (before after : NodeState) (who : ℕ) (items : List Item) (said : List ℕ)
    (old between left new : Talking) → is_running old.progress ≡ true → PassesSo old between
    → IsIdle between.progress → between.stage ≡ old.stage → KeepsPlace between left
    → IsLeft conn_ends.Memory between left → ClosesSo before after who left new
    → Serves before.setup.centre (reverse before.history) who items said None old
    → CutsOff before.setup (reverse before.history) who items said old None (reverse after.history)
    new
given_cut before after who items said old between left new runs passes idle stage on parts closes
    s =
    let rows = before.setup.centre in
    let past = reverse before.history in
    let w = still_served rows past who items said old between runs passes idle stage s in
    let more = leaving_said between in
    let h = given_left rows past who items (said ++ w.added) between left idle on parts w.serves in
    let said_is : (said ++ w.added) ++ more ≡ said ++ (w.added ++ more) =
    append_assoc said w.added more in
    memory_cut before.setup past (reverse after.history) who items said (w.added ++ more) true
    between.course.standing w.others None old left new
    (left_pending between left parts ∙ ap (λ (os : List ℕ). os ++ more) w.pending
    ∙ append_assoc (pending_of old) w.added more) w.asks_are
    (closes true conn_ends.Memory between.course.standing items (said ++ (w.added ++ more))
    (subst (λ (os : List ℕ). HasLeft true conn_ends.Memory between.course.standing rows past who
    items os None left) said_is h))

-- what its close is asked of
pub given_parting : (rows : CentreRows) (past : Past) (who : ℕ) (old between left : Talking)
    → is_running old.progress ≡ true → PassesSo old between → IsIdle between.progress
    → between.stage ≡ old.stage → KeepsPlace between left → IsLeft conn_ends.Memory between left
    → IsServed rows past who old → IsParting rows past who left
given_parting rows past who old between left runs passes idle stage on parts x =
    let w = still_served rows past who x.0 x.1 old between runs passes idle stage x.2 in (
      x.0,
      (x.1 ++ w.added) ++ leaving_said between,
      true,
      conn_ends.Memory,
      between.course.standing,
      given_left rows past who x.0 (x.1 ++ w.added) between left idle on parts w.serves,
    )

pub given_placed : (rows : CentreRows) (past : Past) (who : ℕ) (old between : Talking)
    → PassesSo old between → IsServed rows past who old → IsPlaced between
given_placed rows past who old between passes x =
    placed_of (passes rows x.0 x.2.told x.2.turns x.2.stands).stands
