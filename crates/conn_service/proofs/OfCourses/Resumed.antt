-- A connection some of whose octets were sent stands as before; what was left may be left again.
use Rattle.std.proofs.Common.{◌≡◌, ℕ, Bool, true, List, Option, None}
use Rattle.std.proofs.Common.{refl, sym, ap, subst, ◌∙◌}
use Rattle.std.proofs.lemmas.Bool.{false≢true}
use Rattle.stack_assoc.specs.declared.end_state.EndState.{EndState}
use Rattle.stack_assoc.specs.Courses.{Course}
use Rattle.bilateral.specs.Rows.{CentreRows}
use Rattle.tase_views.specs.declared.event.EventKind.{EventKind}
use Rattle.tase_views.specs.History.{Past}
use Rattle.tase_conn.specs.Map.Inputs.{Item}
use Rattle.tase_conn.specs.Map.Turns.{Turn}
use Rattle.tase_conn.specs.declared.stage.ConnEnd.{ConnEnd}
use Rattle.tase_conn.specs.declared.stage.Progress.{Progress}
use Rattle.tase_conn.specs.declared.stage.Progress.TheVariants as progresses
use Rattle.tase_conn.specs.declared.stage.Stage.{Stage}
use Rattle.tase_conn.specs.declared.stage.Stage.TheVariants as stages
use Rattle.tase_conn.specs.Talking.{Talking, is_open_stage, is_leaving}
use Rattle.tase_conn.specs.Places.{ConnStandsAt}
use Rattle.tase_conn.specs.Taken.{SendsSome}
use Rattle.tase_conn.specs.Leaving.{IsLeft}
use Rattle.tase_conn.specs.Wanting.{IsLeaving}
use Rattle.conn_service.specs.Courses.Cutting.{IsClosingFor, LeftBy, HasLeft}
use Rattle.conn_service.specs.Courses.Serving.{IsWaiting, SaysBy, Serves}
use Rattle.conn_service.proofs.OfCourses.Left.{stands_by, kept_on}

pub sent_serves : (rows : CentreRows) (past : Past) (who : ℕ) (items : List Item)
    (octets : List ℕ) (waiting : Option EventKind) (old new : Talking)
    → (s : Serves rows past who items octets waiting old)
    → ConnStandsAt rows items s.told s.turns new → SendsSome old new
    → Serves rows past who items octets waiting new
sent_serves rows past who items octets waiting old new s stands same =
    let p : new.progress ≡ old.progress = ap (λ (v : Talking). v.progress) same in
    let st : new.stage ≡ old.stage = ap (λ (v : Talking). v.stage) same in
    record {
      told = s.told;
      turns = s.turns;
      input = s.input;
      stands = stands;
      waits = subst (λ (x : Progress). IsWaiting x waiting) (sym p) s.waits;
      answered = s.answered;
      are = s.are;
      asked = s.asked;
      says = subst (λ (x : Stage). SaysBy x new.progress rows past who items s.told s.answered
          octets) (sym st)
          (subst (λ (x : Progress). SaysBy old.stage x rows past who items s.told s.answered octets)
          (sym p) s.says);
    }

pub sent_leaves : (whole : Bool) (end : ConnEnd) (standing : EndState) (rows : CentreRows)
    (past : Past) (who : ℕ) (items : List Item) (octets : List ℕ) (waiting : Option EventKind)
    (old new : Talking) → (h : HasLeft whole end standing rows past who items octets waiting old)
    → ConnStandsAt rows items h.told h.turns new → SendsSome old new
    → HasLeft whole end standing rows past who items octets waiting new
sent_leaves whole end standing rows past who items octets waiting old new h stands same =
    let p : new.progress ≡ old.progress = ap (λ (v : Talking). v.progress) same in
    let st : new.stage ≡ old.stage = ap (λ (v : Talking). v.stage) same in
    let c : new.course ≡ old.course = ap (λ (v : Talking). v.course) same in
    record {
      told = h.told;
      turns = h.turns;
      input = h.input;
      stands = stands;
      waits = subst (λ (x : Progress). IsClosingFor x waiting end) (sym p) h.waits;
      owes = ap (λ (x : Stage). is_open_stage x) st ∙ h.owes
          ∙ ap (λ (x : Progress). is_leaving x) (sym p);
      answered = h.answered;
      read = h.read;
      says = subst (λ (x : Stage). LeftBy whole x end standing new.course rows past who items
          h.answered octets) (sym st)
          (subst (λ (x : Course). LeftBy whole old.stage end standing x rows past who items
          h.answered octets) (sym c) h.says);
    }

-- while its association is open the end doesn't matter yet
other_end : (whole : Bool) (stage : Stage) (end other : ConnEnd) (standing : EndState)
    (course : Course) (rows : CentreRows) (past : Past) (who : ℕ) (items : List Item)
    (answered : List Turn) (octets : List ℕ) → is_open_stage stage ≡ true
    → LeftBy whole stage end standing course rows past who items answered octets
    → LeftBy whole stage other standing course rows past who items answered octets
other_end whole stages.Early end other standing course rows past who items answered octets o k =
    absurd (false≢true o)
other_end whole (stages.Open peer detail) end other standing course rows past who items answered
    octets o k =
    k
other_end whole (stages.Closed peer) end other standing course rows past who items answered octets
    o k =
    absurd (false≢true o)

leaving_is : (p : Progress) → IsLeaving p → is_leaving p ≡ true
leaving_is (progresses.Running asked) l = absurd l
leaving_is progresses.Refused l = absurd l
leaving_is (progresses.Leaving end asked) l = refl
leaving_is (progresses.Ended end) l = absurd l
leaving_is (progresses.Cut end) l = absurd l

-- it is given up once more, for another end
pub left_again : (whole : Bool) (end other : ConnEnd) (standing : EndState) (rows : CentreRows)
    (past : Past) (who : ℕ) (items : List Item) (octets : List ℕ) (old new : Talking)
    → (h : HasLeft whole end standing rows past who items octets None old)
    → IsLeaving old.progress → ConnStandsAt rows items h.told h.turns new → IsLeft other old new
    → HasLeft whole other standing rows past who items octets None new
left_again whole end other standing rows past who items octets old new h leaving stands left =
    let is_open = h.owes ∙ leaving_is old.progress leaving in
    let l = stands_by (is_open_stage old.stage) other old new refl left in
    record {
      told = h.told;
      turns = h.turns;
      input = h.input;
      stands = stands;
      waits = l.waits;
      owes = l.owes;
      answered = h.answered;
      read = h.read;
      says = subst (λ (x : Stage). LeftBy whole x other standing new.course rows past who items
          h.answered octets) (sym l.stage)
          (kept_on whole old.stage other standing rows past who items h.answered octets old new
          l.course
          (other_end whole old.stage end other standing old.course rows past who items h.answered
          octets is_open h.says));
    }
