-- A connection that is left since a report is too long.
use Rattle.std.proofs.Common.{◌≡◌, ℕ, true, false, List, [], ◌++◌, Option, Some, None, refl, sym}
use Rattle.std.proofs.Common.{ap, subst, ◌∙◌, reverse}
use Rattle.std.specs.Prelude.{Ok, option_map, unwrap_or, unsigned_abs}
use Rattle.std.proofs.lemmas.Bool.{false≢true}
use Rattle.std.proofs.lemmas.List.{append-nil}
use Rattle.stack_assoc.specs.Arrivals.{Arrival}
use Rattle.stack_assoc.specs.Courses.{Course}
use Rattle.bilateral.specs.Rows.{CentreRows}
use Rattle.tase_views.specs.Setup.{Setup}
use Rattle.tase_views.specs.History.{Past}
use Rattle.tase_views.specs.Outcomes.{IsRightOutcome}
use Rattle.tase_views.specs.declared.event.EventKind.{EventKind}
use Rattle.tase_views.specs.declared.event.EventKind.TheVariants as events
use Rattle.tase_views.specs.declared.reply.Answer.{Answer}
use Rattle.tase_views.specs.declared.reply.Answer.TheVariants as answers
use Rattle.tase_views.specs.declared.reply.ReportKind.{ReportKind}
use Rattle.tase_conn.specs.Map.Inputs.{Item}
use Rattle.tase_conn.specs.Map.Turns.{Turn}
use Rattle.tase_conn.specs.Map.Asks.{asks_behind}
use Rattle.tase_conn.specs.Map.Out.{first_too_long}
use Rattle.tase_conn.specs.Map.Sent.{events_by, with_event}
use Rattle.tase_conn.specs.Map.Linked.{detail_given}
use Rattle.tase_conn.specs.declared.stage.ConnEnd.{ConnEnd}
use Rattle.tase_conn.specs.declared.stage.ConnEnd.TheVariants as conn_ends
use Rattle.tase_conn.specs.declared.stage.Progress.{Progress}
use Rattle.tase_conn.specs.declared.stage.Progress.TheVariants as progresses
use Rattle.tase_conn.specs.declared.stage.Stage.{Stage}
use Rattle.tase_conn.specs.declared.stage.Stage.TheVariants as stages
use Rattle.tase_conn.specs.Talking.{Talking, is_open_stage, is_leaving}
use Rattle.tase_conn.specs.Answering.{told_said, aborts, parting_octets}
use Rattle.conn_service.specs.Courses.Serving.{IsWaiting, HoldsOfAllInput, SaysBy, Serves, HasTold}
use Rattle.conn_service.specs.Courses.Cutting.{IsClosingFor, HasSetupOf, LeftOpen, LeftClosed, LeftBy}
use Rattle.conn_service.specs.Courses.Cutting.{LeavesTooLong}
use Rattle.conn_service.specs.Courses.AnswerEnd.{end_answered}
use Rattle.conn_service.proofs.OfCourses.Answered.{IsLeftFor, GoesFor, asked_more, follows_by}
use Rattle.conn_service.proofs.OfCourses.Left.{setup_known, open_left, closed_says}
use Rattle.conn_service.proofs.OfCourses.Leftover.{all_said}
use Rattle.conn_service.proofs.OfCourses.Seats.{goes_at}
use Rattle.conn_service.proofs.OfCourses.Unnoted.{connected_asked, read_with}
use Rattle.conn_service.proofs.OfCourses.Wanted.{waiting_of}

-- all was said that an association is sent that is open still
left_open : (stage : Stage) (progress : Progress) (rows : CentreRows) (past : Past) (who : ℕ)
    (items : List Item) (told : List Arrival) (turns : List Turn) (octets : List ℕ)
    (course : Course) → is_open_stage stage ≡ true
    → reverse (events_by who past) ≡ asks_behind rows [] turns
    → HoldsOfAllInput items turns (HasSetupOf course)
    → SaysBy stage progress rows past who items told turns octets
    → LeftOpen true course.standing course rows past who items turns octets
left_open (stages.Open peer detail) progress rows past who items told turns octets course is
    asked setup says = open_left rows past who items turns octets course asked setup says
left_open stages.Early progress rows past who items told turns octets course is asked setup says =
    absurd (false≢true is)
left_open (stages.Closed peer) progress rows past who items told turns octets course is asked
    setup says = absurd (false≢true is)

left_by_open : (stage : Stage) (end : ConnEnd) (course : Course) (rows : CentreRows) (past : Past)
    (who : ℕ) (items : List Item) (turns : List Turn) (octets : List ℕ)
    → is_open_stage stage ≡ true
    → LeftOpen true course.standing course rows past who items turns octets
    → LeftBy true stage end course.standing course rows past who items turns octets
left_by_open (stages.Open peer detail) end course rows past who items turns octets is o = o
left_by_open stages.Early end course rows past who items turns octets is o = absurd (false≢true is)
left_by_open (stages.Closed peer) end course rows past who items turns octets is o =
    absurd (false≢true is)

-- a report that is too long
pub record IsLong (items : List Item) (answer : Answer) (end : ConnEnd) : Type 0 where
  pub reports : List ReportKind
  pub answer_is : answer ≡ answers.Reports reports
  pub len : ℕ
  pub len_is : first_too_long (detail_given items) reports ≡ Some len
  pub end_is : end ≡ conn_ends.TooLong len (unsigned_abs (detail_given items))

long_by : (items : List Item) (reports : List ReportKind) (end : ConnEnd) (long : Option ℕ)
    → first_too_long (detail_given items) reports ≡ long
    → option_map (λ len. conn_ends.TooLong len (unsigned_abs (detail_given items))) long ≡ Some end
    → IsLong items (answers.Reports reports) end
long_by items reports end None e long = absurd cc
long_by items reports end (Some len) e long = record {
  reports = reports;
  answer_is = refl;
  len = len;
  len_is = e;
  end_is = sym (ap (λ (o : Option ConnEnd). unwrap_or o end) long);
}

pub long_of : (items : List Item) (answer : Answer) (end : ConnEnd)
    → end_answered items answer ≡ Some end → IsLong items answer end
long_of items (answers.Reports reports) end long =
    long_by items reports end (first_too_long (detail_given items) reports) refl long
long_of items (answers.Opened key) end long = absurd cc
long_of items (answers.Reply reply) end long = absurd cc
long_of items answers.Closed end long = absurd cc
long_of items answers.Noted end long = absurd cc
long_of items (answers.Orders orders) end long = absurd cc

long_aborts : (items : List Item) (answer : Answer) (end : ConnEnd)
    → end_answered items answer ≡ Some end → aborts end ≡ true
long_aborts items answer end long =
    ap (λ (e : ConnEnd). aborts e) (long_of items answer end long).end_is

-- it is left, and once its association is closed, and aborted, all was said that its peer is sent
pub too_long_leaves : (setup : Setup) (past : Past) (who : ℕ) (items : List Item)
    (octets : List ℕ) (event : EventKind) (answer : Answer) (end : ConnEnd) (old new : Talking)
    → (s : Serves setup.centre past who items octets (Some event) old)
    → IsRightOutcome setup past who event (Ok answer)
    → HasTold setup.centre items s.told s.turns (Ok answer) old new
    → end_answered items answer ≡ Some end
    → LeavesTooLong setup past who items octets event answer end old new
too_long_leaves setup past who items octets event answer end old new s right h long =
    let rows = setup.centre in
    let now = with_event who event past in
    let all = octets ++ told_said old.progress old.stage old.course (Ok answer) in
    let found = waiting_of old.progress event s.waits in
    let asked = found.0 in
    let r = goes_at s.stands found.1 in
    let connect = connected_asked rows items s.told s.turns asked event old
    (subst (λ (x : Progress). IsWaiting x (Some event)) found.1 s.waits) r in
    let f = follows_by rows past who items octets event answer old old.progress s refl s.waits
    s.stands.goes right.1 in
    let g : IsLeftFor end event items s.turns old.course f.stage f.progress =
    subst (λ (o : Option ConnEnd). GoesFor o event items s.turns old.course f.stage f.progress) long
    f.goes in
    let p : new.progress ≡ progresses.Leaving end false =
    h.progress ∙ f.progress_is ∙ g.progress_is in
    let st : new.stage ≡ f.stage = h.stage ∙ f.stage_is in
    let leaving : is_leaving new.progress ≡ true = ap (λ (x : Progress). is_leaving x) p in
    let same = h.course leaving in
    let kept = left_open f.stage f.progress rows now who items s.told s.turns all old.course g.stays
    (asked_more rows past who event s.answered s.turns s.are.last s.asked s.are.is s.are.asks)
    (setup_known items s.told s.turns rows s.turns asked old r connect) f.says in
    record {
      progress = p;
      event_is = g.event_is;
      left = record {
        told = s.told;
        turns = s.turns;
        input = s.input;
        stands = h.stands;
        waits = subst (λ (x : Progress). IsClosingFor x None end) (sym p) refl;
        owes = ap (λ (x : Stage). is_open_stage x) st ∙ g.stays ∙ sym leaving;
        answered = s.turns;
        read = read_with rows past who items octets event asked old s r;
        says = subst (λ (x : Stage). LeftBy true x end old.course.standing new.course rows now who
            items s.turns all) (sym st)
            (subst (λ (x : Course). LeftBy true f.stage end old.course.standing x rows now who items
            s.turns all) (sym same)
            (left_by_open f.stage end old.course rows now who items s.turns all g.stays kept));
      };
      whole = all_said end old.course.standing rows (with_event who events.Close now) who items
          s.turns [] (all ++ parting_octets new.course end) s.input
          (g.whole ∙ sym (append-nil s.turns)) tt (long_aborts items answer end long) g.accepted
          (subst (λ (x : Course). LeftClosed true end old.course.standing rows
          (with_event who events.Close now) who items s.turns (all ++ parting_octets x end))
          (sym same)
          (closed_says true rows now who items s.turns all end old.course.standing old.course kept));
    }
