-- Of a connection that was told an answer: it goes on, or it is cut, since a report is too long.
use Rattle.std.proofs.Common.{◌≡◌, ℕ, Bool, true, false, List, [], ◌∷◌, ◌++◌, reverse}
use Rattle.std.proofs.Common.{Option, Some, None, Ok, is_some, refl, sym, ap, subst, ◌∙◌, inr}
use Rattle.std.proofs.Common.{append_assoc}
use Rattle.std.specs.Prelude.{if◌then◌else◌}
use Rattle.std.proofs.lemmas.Bool.{true≢false}
use Rattle.tase_views.specs.Setup.{Setup}
use Rattle.tase_views.specs.History.{Past, association_in}
use Rattle.tase_views.specs.Outcomes.{IsRightOutcome, answer_of}
use Rattle.tase_views.specs.declared.event.EventKind.{EventKind}
use Rattle.tase_views.specs.declared.event.EventKind.TheVariants as events
use Rattle.tase_views.specs.declared.reply.Answer.{Answer}
use Rattle.node_core.specs.NodeState.{NodeState, with_entry}
use Rattle.tase_conn.specs.Map.Inputs.{Item}
use Rattle.tase_conn.specs.Map.Linked.{link_octets}
use Rattle.tase_conn.specs.Map.Sent.{events_by, with_event}
use Rattle.tase_conn.specs.declared.stage.ConnEnd.{ConnEnd}
use Rattle.tase_conn.specs.declared.stage.Progress.{Progress}
use Rattle.tase_conn.specs.declared.stage.Progress.TheVariants as progresses
use Rattle.tase_conn.specs.Talking.{Talking, pending_of, is_leaving}
use Rattle.tase_conn.specs.Places.{KeepsPlace}
use Rattle.tase_conn.specs.Answering.{TellsAnswer, told_said, parting_octets}
use Rattle.conn_service.specs.Courses.Serving.{IsWaiting, Serves}
use Rattle.conn_service.specs.Courses.Cutting.{LeavesTooLong}
use Rattle.conn_service.specs.Courses.AnswerEnd.{end_answered}
use Rattle.conn_service.proofs.OfCourses.Answered.{answered_serves}
use Rattle.conn_service.proofs.OfCourses.Served.{next_asked}
use Rattle.conn_service.proofs.OfCourses.TooLong.{long_of, too_long_leaves}
use Rattle.conn_service.specs.Attending.{IsAsking, IsParting, ClosesLeft, closing_said}
use Rattle.conn_service.specs.Attending.{AnswersEvent, GoesOrCloses, IsNodesEnd, IsBrought}
use Rattle.conn_service.specs.Attending.{CutsOff}
use Rattle.conn_service.specs.Sends.{IsCutFor, IsSaidByEnd, first_refused}
use Rattle.conn_service.proofs.Closed.{none_left, seat_left}
use Rattle.conn_service.proofs.Going.{grown}
use Rattle.conn_service.proofs.Takes.{event_behind}

-- ---- what comes of an answer

-- it serves on, or it is left
abbrev ToldBy : Option ConnEnd → Setup → Past → ℕ → List Item → List ℕ → EventKind → Answer → Talking
    → Talking → Type 0
ToldBy None setup past who items said event answer old new =
    Serves setup.centre (with_event who event past) who items
    (said ++ told_said old.progress old.stage old.course (Ok answer)) None new
ToldBy (Some end) setup past who items said event answer old new =
    LeavesTooLong setup past who items said event answer end old new

told_by : (long : Option ConnEnd) (setup : Setup) (past : Past) (who : ℕ) (items : List Item)
    (said : List ℕ) (event : EventKind) (answer : Answer) (old new : Talking)
    → end_answered items answer ≡ long → IsRightOutcome setup past who event (Ok answer)
    → KeepsPlace old new → TellsAnswer (Ok answer) old new
    → Serves setup.centre past who items said (Some event) old
    → ToldBy long setup past who items said event answer old new
told_by None setup past who items said event answer old new long right stays tells s =
    answered_serves setup past who items said event answer old new s right
    (record {
      stands = stays setup.centre items s.told s.turns s.stands;
      progress = tells.progress;
      stage = tells.stage;
      course = tells.course;
    }) long
told_by (Some end) setup past who items said event answer old new long right stays tells s =
    too_long_leaves setup past who items said event answer end old new s right
    (record {
      stands = stays setup.centre items s.told s.turns s.stands;
      progress = tells.progress;
      stage = tells.stage;
      course = tells.course;
    }) long

waiting_goes : (p : Progress) → IsWaiting p None → is_leaving p ≡ true → ⊥
waiting_goes (progresses.Running asked) w left = absurd cc
waiting_goes progresses.Refused w left = absurd w
waiting_goes (progresses.Leaving end asked) w left = w
waiting_goes (progresses.Ended end) w left = absurd cc
waiting_goes (progresses.Cut end) w left = absurd w

-- ---- a report is too long

-- its association was closed then
too_long_cut : (setup : Setup) (past after : Past) (who : ℕ) (items : List Item) (said : List ℕ)
    (event : EventKind) (answer : Answer) (end : ConnEnd) (old between new : Talking)
    → end_answered items answer ≡ Some end → IsRightOutcome setup past who event (Ok answer)
    → TellsAnswer (Ok answer) old between
    → (s : Serves setup.centre past who items said (Some event) old)
    → LeavesTooLong setup past who items said event answer end old between
    → ClosesLeft true end old.course.standing setup.centre (with_event who event past) who items
    (said ++ told_said old.progress old.stage old.course (Ok answer)) between after new
    → CutsOff setup (with_event who event past) who items said old
    (end_answered items (answer_of setup past who event)) after new
too_long_cut setup past after who items said event answer end old between new long right tells s l
    c =
    let rows = setup.centre in
    let now = with_event who event past in
    let more = told_said old.progress old.stage old.course (Ok answer) in
    let closing = closing_said between end in
    let parting = parting_octets between.course end in
    let k = long_of items answer end long in
    let n = next_asked rows past who items said event old s in
    let leaving : is_leaving between.progress ≡ true =
    ap (λ (p : Progress). is_leaving p) l.progress in
    let seat : is_some (association_in now who) ≡ true =
    seat_left true end old.course.standing rows now who items (said ++ more) None between l.left
    ∙ leaving in
    let all : said ++ (more ++ closing) ≡ link_octets rows after who items =
    ap (λ (b : Bool). said ++ (more ++ (if b then parting else []))) leaving
    ∙ sym (append_assoc said more parting) ∙ l.whole
    ∙ ap (λ (p : Past). link_octets rows p who items) (sym (c.after_is
    ∙ ap (λ (b : Bool). if b then with_event who events.Close now else now) seat)) in (
      record {
        adds = record {
          added = more ++ closing;
          pending = c.pending ∙ ap (λ (os : List ℕ). os ++ closing) tells.said
              ∙ append_assoc (pending_of old) more closing;
        };
        end = end;
        by_node = subst (λ (x : ConnEnd). IsNodesEnd x) (sym k.end_is) tt;
        ended = c.ended;
        others = n.0;
        asks_are = n.1 ∙ sym (append_assoc (reverse (events_by who past)) (event ∷ []) n.0)
            ∙ ap (λ (es : List EventKind). es ++ n.0) (sym (event_behind who past event));
        cause = subst (λ (x : ConnEnd). IsCutFor setup now who items x
            (first_refused setup now who n.0)) (sym k.end_is)
            (record {
              later = [];
              before = past;
              past_is = ap (λ (e : EventKind). with_event who e past) l.event_is;
              last = refl;
              reports = k.reports;
              answer = ap (λ (e : EventKind). answer_of setup past who e) (sym l.event_is)
                  ∙ sym right.1 ∙ k.answer_is;
              len_is = k.len_is;
              detail_is = refl;
            });
        after_is = c.after_is;
        none_open = none_left true end old.course.standing rows after who items
            ((said ++ more) ++ closing) new c.left c.ended;
        said_is = subst (λ (x : ConnEnd). IsSaidByEnd items (Some x) (said ++ (more ++ closing))
            (link_octets rows after who items)) (sym k.end_is) all;
      },
      subst (λ (a : Answer). IsBrought end (end_answered items a)) right.1
          (subst (λ (o : Option ConnEnd). IsBrought end o) (sym long)
          (subst (λ (x : ConnEnd). IsBrought x (Some x)) (sym k.end_is) refl)),
    )

-- ---- either

-- what comes of it, by whether it is left
answers_by : (long : Option ConnEnd) (goes : Bool) (setup : Setup) (past after : Past) (who : ℕ)
    (items : List Item) (said : List ℕ) (event : EventKind) (answer : Answer)
    (old between new : Talking) → end_answered items answer ≡ long
    → IsRightOutcome setup past who event (Ok answer) → TellsAnswer (Ok answer) old between
    → (s : Serves setup.centre past who items said (Some event) old)
    → ToldBy long setup past who items said event answer old between
    → GoesOrCloses goes setup.centre (with_event who event past) who between after new
    → AnswersEvent setup past who items said event old goes after new
answers_by None true setup past after who items said event answer old between new long right tells s
    t g = (
      right.0,
      g.1,
      record {
        added = told_said old.progress old.stage old.course (Ok answer);
        pending = ap (λ (v : Talking). pending_of v) g.2 ∙ tells.said;
      },
      subst (λ (p : Past). Serves setup.centre p who items
          (said ++ told_said old.progress old.stage old.course (Ok answer)) None new) (sym g.1)
          (subst (λ (v : Talking). Serves setup.centre (with_event who event past) who items
          (said ++ told_said old.progress old.stage old.course (Ok answer)) None v) (sym g.2) t),
      ap (λ (a : Answer). end_answered items a) (sym right.1) ∙ long,
    )
answers_by None false setup past after who items said event answer old between new long right tells
    s t g = absurd (waiting_goes between.progress t.waits g.0)
answers_by (Some end) true setup past after who items said event answer old between new long right
    tells s t g =
    absurd (true≢false (sym (ap (λ (p : Progress). is_leaving p) t.progress) ∙ g.0))
answers_by (Some end) false setup past after who items said event answer old between new long right
    tells s t g =
    inr (
      right.0,
      too_long_cut setup past after who items said event answer end old between new long
          right tells s t (g.1 true end old.course.standing items
          (said ++ told_said old.progress old.stage old.course (Ok answer)) t.left),
    )

-- the node has answered, and the connection was told so
pub told_on : (goes : Bool) (before middle after : NodeState) (who : ℕ) (items : List Item)
    (said : List ℕ) (event : EventKind) (answer : Answer) (old between new : Talking)
    → middle ≡ with_entry before who event
    → IsRightOutcome before.setup (reverse before.history) who event (Ok answer)
    → KeepsPlace old between → TellsAnswer (Ok answer) old between
    → GoesOrCloses goes middle.setup.centre (reverse middle.history) who between
    (reverse after.history) new
    → Serves before.setup.centre (reverse before.history) who items said (Some event) old
    → AnswersEvent before.setup (reverse before.history) who items said event old goes
    (reverse after.history) new
told_on goes before middle after who items said event answer old between new taken right stays tells
    g s =
    let past = reverse before.history in
    answers_by (end_answered items answer) goes before.setup past (reverse after.history) who items
    said event answer old between new refl right tells s
    (told_by (end_answered items answer) before.setup past who items said event answer old between
    refl right stays tells s)
    (subst (λ (p : Past). GoesOrCloses goes before.setup.centre p who between
    (reverse after.history) new) (grown before middle who event taken)
    (subst (λ (x : Setup). GoesOrCloses goes x.centre (reverse middle.history) who between
    (reverse after.history) new) (ap (λ (m : NodeState). m.setup) taken) g))

-- what its close is asked of, where it is left
parts_by : (long : Option ConnEnd) (setup : Setup) (past : Past) (who : ℕ) (items : List Item)
    (said : List ℕ) (event : EventKind) (answer : Answer) (old between : Talking)
    → ToldBy long setup past who items said event answer old between
    → is_leaving between.progress ≡ true
    → IsParting setup.centre (with_event who event past) who between
parts_by None setup past who items said event answer old between t left =
    absurd (waiting_goes between.progress t.waits left)
parts_by (Some end) setup past who items said event answer old between t left = (
  items,
  said ++ told_said old.progress old.stage old.course (Ok answer),
  true,
  end,
  old.course.standing,
  t.left,
)

pub told_parting : (before middle : NodeState) (who : ℕ) (event : EventKind) (answer : Answer)
    (old between : Talking) → middle ≡ with_entry before who event
    → IsRightOutcome before.setup (reverse before.history) who event (Ok answer)
    → KeepsPlace old between → TellsAnswer (Ok answer) old between
    → IsAsking before.setup.centre (reverse before.history) who event old
    → is_leaving between.progress ≡ true
    → IsParting middle.setup.centre (reverse middle.history) who between
told_parting before middle who event answer old between taken right stays tells x left =
    subst (λ (p : Past). IsParting middle.setup.centre p who between)
    (sym (grown before middle who event taken))
    (subst (λ (y : Setup). IsParting y.centre (with_event who event (reverse before.history)) who
    between) (sym (ap (λ (m : NodeState). m.setup) taken))
    (parts_by (end_answered x.0 answer) before.setup (reverse before.history) who x.0 x.1 event
    answer old between
    (told_by (end_answered x.0 answer) before.setup (reverse before.history) who x.0 x.1 event
    answer old between refl right stays tells x.2) left))
