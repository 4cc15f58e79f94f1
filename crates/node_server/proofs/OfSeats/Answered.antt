-- What comes of an event that a connection wants, by a call of a seat.
use Rattle.std.proofs.Common.{◌≡◌, ℕ, Bool, true, false, List, ◌∷◌, ◌++◌, is_some, Some, None}
use Rattle.std.proofs.Common.{Ok, Err, sym, ap, subst, ◌∙◌, inl, inr, length, arith}
use Rattle.std.specs.Prelude.{if◌then◌else◌, ◌⊎◌}
use Rattle.bilateral.specs.Rows.{CentreRows}
use Rattle.tase_views.specs.Setup.{Setup}
use Rattle.tase_views.specs.History.{Past, association_in}
use Rattle.tase_views.specs.Outcomes.{refusal_of, answer_of}
use Rattle.tase_views.specs.declared.event.EventKind.{EventKind}
use Rattle.tase_views.specs.declared.event.EventKind.TheVariants as events
use Rattle.tase_views.specs.declared.event.Entry.{Entry}
use Rattle.tase_views.specs.declared.fault.StepFault.{StepFault}
use Rattle.tase_views.specs.declared.reply.Answer.{Answer}
use Rattle.tase_conn.specs.Map.Inputs.{Item}
use Rattle.tase_conn.specs.Map.Sent.{with_event}
use Rattle.tase_conn.specs.declared.stage.ConnEnd.TheVariants as conn_ends
use Rattle.tase_conn.specs.Talking.{Talking, is_leaving}
use Rattle.tase_conn.specs.Places.{KeepsPlace}
use Rattle.tase_conn.specs.Leaving.{IsLeft}
use Rattle.tase_conn.specs.Answering.{TellsAnswer, unnoted, end_of_fault, IsAnswerFor}
use Rattle.conn_service.specs.Courses.Serving.{Serves, AreOthers}
use Rattle.conn_service.specs.Courses.AnswerEnd.{end_answered}
use Rattle.conn_service.proofs.OfCourses.Kept.{others_serve}
use Rattle.conn_service.specs.Served.{with_closed}
use Rattle.conn_service.specs.Attending.{IsAsking, IsParting, CutsOff}
use Rattle.conn_service.proofs.Closed.{seat_left}
use Rattle.conn_service.proofs.Going.{asking_told, asking_refused}
use Rattle.node_server.specs.Seats.Serving.{IsShut, ClosesOverAll, AnswersOfSeat, CutsBefore}
use Rattle.node_server.specs.Seats.Serving.{CutsBehind}
use Rattle.node_server.specs.Seats.Serving.{GoesOrShuts}
use Rattle.node_server.proofs.OfSeats.Behind.{CameBehind}
use Rattle.node_server.proofs.OfSeats.Over.{refused_over, refused_parts, unnoted_over, unnoted_parts}
use Rattle.node_server.proofs.OfSeats.Over.{told_over, told_parts}
use Rattle.node_server.proofs.OfSeats.Shut.{node_shut}

-- ---- behind entries of other seats it waits still

asking_beside : (rows : CentreRows) (past others : Past) (who : ℕ) (event : EventKind) (v : Talking)
    → AreOthers who others → IsAsking rows past who event v
    → IsAsking rows (others ++ past) who event v
asking_beside rows past others who event v apart x =
    (x.0, x.1, others_serve rows past others who x.0 x.1 (Some event) v x.2 apart)

-- the answer may be told
pub answer_told : (setup : Setup) (past after : Past) (who : ℕ) (event : EventKind)
    (answer : Answer) (v : Talking) → CameBehind setup who past event (Ok answer) after
    → IsAsking setup.centre past who event v → IsAnswerFor v.progress (Ok answer)
answer_told setup past after who event answer v b x =
    asking_told setup (b.others ++ past) who event answer v
    (asking_beside setup.centre past b.others who event v b.apart x) b.right

-- and the refusal
pub refusal_told : (setup : Setup) (past after : Past) (who : ℕ) (event : EventKind)
    (fault : StepFault) (v : Talking) → CameBehind setup who past event (Err fault) after
    → IsAsking setup.centre past who event v → IsAnswerFor v.progress (Err fault)
refusal_told setup past after who event fault v b x =
    asking_refused setup (b.others ++ past) who event fault v
    (asking_beside setup.centre past b.others who event v b.apart x) b.right

-- ---- what its close is asked of

pub told_parting : (setup : Setup) (past after : Past) (who : ℕ) (event : EventKind)
    (answer : Answer) (old between : Talking) → CameBehind setup who past event (Ok answer) after
    → KeepsPlace old between → TellsAnswer (Ok answer) old between
    → IsAsking setup.centre past who event old → is_leaving between.progress ≡ true
    → IsParting setup.centre after who between
told_parting setup past after who event answer old between b stays tells x leaving =
    subst (λ (p : Past). IsParting setup.centre p who between) (sym b.after_is)
    (told_parts setup (b.others ++ past) who event answer old between stays tells leaving b.right
    (asking_beside setup.centre past b.others who event old b.apart x))

pub unnoted_parting : (setup : Setup) (past after : Past) (who : ℕ) (event : EventKind)
    (answer : Answer) (old between left : Talking)
    → CameBehind setup who past event (Ok answer) after → between ≡ unnoted (Ok answer) old
    → KeepsPlace old between → KeepsPlace between left → IsLeft conn_ends.Memory between left
    → IsAsking setup.centre past who event old → IsParting setup.centre after who left
unnoted_parting setup past after who event answer old between left b is stays on parts x =
    subst (λ (p : Past). IsParting setup.centre p who left) (sym b.after_is)
    (unnoted_parts setup (b.others ++ past) who event answer old between left is stays on parts
    b.right (asking_beside setup.centre past b.others who event old b.apart x))

pub refused_parting : (setup : Setup) (past after : Past) (who : ℕ) (event : EventKind)
    (fault : StepFault) (old between : Talking) → CameBehind setup who past event (Err fault) after
    → KeepsPlace old between → IsLeft (end_of_fault fault) old between
    → IsAsking setup.centre past who event old → IsParting setup.centre after who between
refused_parting setup past after who event fault old between b stays left x =
    subst (λ (p : Past). IsParting setup.centre p who between) (sym b.after_is)
    (refused_parts setup (b.others ++ past) who event fault old between stays left b.right
    (asking_beside setup.centre past b.others who event old b.apart x))

-- ---- it is cut

pub refused_shut : (setup : Setup) (past middle after : Past) (who : ℕ) (items : List Item)
    (said : List ℕ) (event : EventKind) (fault : StepFault) (old between new : Talking)
    → CameBehind setup who past event (Err fault) middle → KeepsPlace old between
    → IsLeft (end_of_fault fault) old between → ClosesOverAll setup.centre who between new
    → IsShut who middle after → Serves setup.centre past who items said (Some event) old
    → CutsBefore setup past who items said old after new
refused_shut setup past middle after who items said event fault old between new b stays left closes
    shut s =
    let now = b.others ++ past in
    let here : IsShut who now after = subst (λ (p : Past). IsShut who p after) b.after_is shut in
    let c = refused_over setup now who items said event fault old between new stays left closes
    b.right (others_serve setup.centre past b.others who items said (Some event) old s b.apart) in
    (node_shut setup now after who items said old new c.0 here, b.others, b.apart, c.1, here)

pub unnoted_shut : (setup : Setup) (past middle after : Past) (who : ℕ) (items : List Item)
    (said : List ℕ) (event : EventKind) (answer : Answer) (old between left new : Talking)
    → CameBehind setup who past event (Ok answer) middle → between ≡ unnoted (Ok answer) old
    → KeepsPlace old between → KeepsPlace between left → IsLeft conn_ends.Memory between left
    → ClosesOverAll setup.centre who left new → IsShut who middle after
    → Serves setup.centre past who items said (Some event) old
    → CutsBehind setup past who items said event old after new
unnoted_shut setup past middle after who items said event answer old between left new b is stays on
    parts closes shut s =
    let before = b.others ++ past in
    let now = with_event who event before in
    let here : IsShut who now after = subst (λ (p : Past). IsShut who p after) b.after_is shut in
    let c = unnoted_over setup before who items said event answer old between left new is stays on
    parts closes b.right
    (others_serve setup.centre past b.others who items said (Some event) old s b.apart) in (
      node_shut setup now after who items said old new c.0 here,
      b.others,
      b.apart,
      b.right.0,
      c.1,
      here,
    )

-- ---- or it goes on

-- two entries more aren't one more
too_short : (b : Bool) (first last close : Entry) (past : Past)
    → last ∷ first ∷ past ≡ (if b then close ∷ past else past) → ⊥
too_short true first last close past e =
    let n : length (last ∷ first ∷ past) ≡ length (close ∷ past) =
    ap (λ (p : Past). length p) e in
    absurd (omega arith)
too_short false first last close past e =
    let n : length (last ∷ first ∷ past) ≡ length past = ap (λ (p : Past). length p) e in
    absurd (omega arith)

-- behind its event it is cut, and not in place of it
behind_event : (setup : Setup) (past others after : Past) (who : ℕ) (items : List Item)
    (said : List ℕ) (event : EventKind) (old new : Talking) → AreOthers who others
    → is_some (association_in (with_event who event (others ++ past)) who) ≡ true
    → IsShut who (with_event who event (others ++ past)) after
    → CutsOff setup (others ++ past) who items said old None
    (with_closed who (with_event who event (others ++ past))) new
    ⊎ ((refusal_of setup (others ++ past) who event ≡ None)
    × CutsOff setup (with_event who event (others ++ past)) who items said old
    (end_answered items (answer_of setup (others ++ past) who event))
    (with_closed who (with_event who event (others ++ past))) new)
    → CutsBehind setup past who items said event old after new
behind_event setup past others after who items said event old new apart there shut (inl c) =
    let before = others ++ past in
    let now = with_event who event before in
    absurd (too_short (is_some (association_in before who))
    (record { who = who; event = event }) (record { who = who; event = events.Close })
    (record { who = who; event = events.Close }) before
    (ap (λ (b : Bool). if b then with_event who events.Close now else now) (sym there)
    ∙ c.0.after_is))
behind_event setup past others after who items said event old new apart there shut (inr c) = (
  node_shut setup (with_event who event (others ++ past)) after who items said old new c.1.0 shut,
  others,
  apart,
  c.0,
  c.1.1,
  shut,
)

pub told_on : (goes : Bool) (setup : Setup) (past middle after : Past) (who : ℕ)
    (items : List Item) (said : List ℕ) (event : EventKind) (answer : Answer)
    (old between new : Talking) → CameBehind setup who past event (Ok answer) middle
    → KeepsPlace old between → TellsAnswer (Ok answer) old between
    → GoesOrShuts goes setup.centre who middle between after new
    → Serves setup.centre past who items said (Some event) old
    → AnswersOfSeat setup past who items said event old goes after new
told_on true setup past middle after who items said event answer old between new b stays tells g s =
    let before = b.others ++ past in (
      b.others,
      b.apart,
      told_over true setup before after who items said event answer old between new stays tells
          b.right (g.0, g.1 ∙ b.after_is, g.2)
          (others_serve setup.centre past b.others who items said (Some event) old s b.apart),
    )
told_on false setup past middle after who items said event answer old between new b stays tells g s
    =
    let before = b.others ++ past in
    let now = with_event who event before in
    let t = others_serve setup.centre past b.others who items said (Some event) old s b.apart in
    let p = told_parts setup before who event answer old between stays tells g.0 b.right
    (items, said, t) in
    inr (behind_event setup past b.others after who items said event old new b.apart
    (seat_left p.2 p.3 p.4 setup.centre now who p.0 p.1 None between p.5 ∙ g.0)
    (subst (λ (x : Past). IsShut who x after) b.after_is g.1)
    (told_over false setup before (with_closed who now) who items said event answer old between new
    stays tells b.right (
      g.0,
      λ whole end standing more told h.
          g.2 now whole end standing more told h,
    ) t))
