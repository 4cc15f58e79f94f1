-- What was told of a text once the connection ends.
use Rattle.std.proofs.Common.{◌≡◌, ◌≤◌, true, List, ◌++◌, length}
use Rattle.std.proofs.Common.{Option, Some, None, sym, ap, subst, ◌∙◌, MatchOption}
use Rattle.std.specs.Prelude.{is_some}
use Rattle.bilateral.specs.Rows.{CentreRows}
use Rattle.stack_assoc.specs.declared.messages.fault.StackFault.{StackFault}
use Rattle.stack_assoc.specs.Arrivals.{Arrival, called, first_in, connect_in}
use Rattle.stack_assoc.specs.Tellings.{StopsTelling}
use Rattle.stack_assoc.specs.Handing.{answers_to}
use Rattle.stack_assoc.specs.Expectations.{setup_after}
use Rattle.stack_assoc.specs.Courses.{Course, CourseStands}
use Rattle.stack_assoc.specs.Courses as courses
use Rattle.tase_conn.specs.Map.Inputs.{Item, text_given}
use Rattle.tase_conn.specs.Map.Readings.{Reading, reading_of}
use Rattle.tase_conn.specs.Map.Turns.{Turn, turns_of}
use Rattle.tase_conn.proofs.OfMap.Fronts.{HasFront, told_front, whole_front, first_kept, setup_fixed}
use Rattle.tase_conn.proofs.OfMap.Fronts.{answers_told, some_told}
use Rattle.tase_conn.proofs.OfMap.ReadingLaws.{reading_only}
use Rattle.tase_conn.specs.declared.stage.Behind.{Behind}
use Rattle.tase_conn.specs.declared.stage.Behind.TheVariants as behinds
use Rattle.tase_conn.specs.declared.stage.Coming.{Coming}
use Rattle.tase_conn.specs.declared.stage.Coming.TheVariants as comings
use Rattle.tase_conn.specs.declared.stage.PendingEvent.{PendingEvent}
use Rattle.tase_conn.specs.declared.stage.PendingEvent.TheVariants as askeds
use Rattle.tase_conn.specs.declared.stage.ConnEnd.{ConnEnd}
use Rattle.tase_conn.specs.declared.stage.ConnEnd.TheVariants as conn_ends
use Rattle.tase_conn.specs.Talking.{Talking}
use Rattle.tase_conn.specs.Places.{Runs, ReadsBy, BeginsTurns, turns_held}
use Rattle.tase_conn.specs.Places.{Position, position_by}
use Rattle.tase_conn.proofs.Acted.{HasToldAll}

-- behind the first message nothing more is answered at once
answered_by : (items : List Item) (told : List Arrival) (course : Course)
    → CourseStands called (text_given items) told course → 1 ≤ length told
    → answers_to called told ≡ answers_to called (reading_of (text_given items)).told
answered_by items told course s some =
    let f = told_front (text_given items) told course s in
    let whole = whole_front (text_given items) in
    sym (ap (λ (ts : List Arrival). answers_to called ts) f.1
    ∙ answers_told (text_given items) told f.0
    (subst (λ (ts : List Arrival). HasFront (text_given items) ts) f.1 whole) some)

-- what was told, and what its first connect fixed, once one was told
pub record IsTold (items : List Item) (told : List Arrival) : Type 0 where
  pub answered : answers_to called told ≡ answers_to called (reading_of (text_given items)).told
  pub fixed : (setup_after told ≡ setup_after (reading_of (text_given items)).told)
      × (is_some (first_in connect_in (reading_of (text_given items)).told) ≡ true)

pub told_open : (rows : CentreRows) (items : List Item) (told : List Arrival) (turns : List Turn)
    (asked : PendingEvent) (v : Talking) → Runs rows items told turns asked v
    → is_some (first_in connect_in told) ≡ true → IsTold items told
told_open rows items told turns asked v r connect =
    let f = told_front (text_given items) told v.course r.stands in
    record {
      answered = answered_by items told v.course r.stands (some_told told connect);
      fixed = (
        sym (ap (λ (ts : List Arrival). setup_after ts) f.1
            ∙ (setup_fixed (text_given items) told v.course r.stands connect).1 f.0),
        ap (λ (ts : List Arrival). is_some (first_in connect_in ts)) f.1
            ∙ ap (λ (o : Option _). is_some o) (first_kept connect_in told f.0 connect) ∙ connect,
      );
    }

-- all of it, where a connect was told
pub all_open : (rows : CentreRows) (items : List Item) (told : List Arrival) (turns : List Turn)
    (v : Talking) (end : ConnEnd) → Runs rows items told turns askeds.Nothing v
    → (position_by v.stage askeds.Nothing v.held).connected ≡ true → HasToldAll items told end
all_open rows items told turns v end r is =
    let t = told_open rows items told turns askeds.Nothing v r
    (ap (λ (p : Position). p.connected) r.at ∙ is) in
    record { answered = t.answered; fixed = λ declined. t.fixed }

-- at an abort
pub all_some : (items : List Item) (told : List Arrival) (course : Course) (end : ConnEnd)
    → CourseStands called (text_given items) told course → 1 ≤ length told
    → (end ≡ conn_ends.Declined → ⊥) → HasToldAll items told end
all_some items told course end s some other = record {
  answered = answered_by items told course s some;
  fixed = λ declined. absurd (other declined);
}

-- where all messages of the items were told
all_read : (items : List Item) (told : List Arrival) (end : ConnEnd)
    → told ≡ (reading_of (text_given items)).told → (end ≡ conn_ends.Declined → ⊥)
    → HasToldAll items told end
all_read items told end e other = record {
  answered = ap (λ (ts : List Arrival). answers_to called ts) e;
  fixed = λ declined. absurd (other declined);
}

-- at a rule that is broken
pub all_broken : (items : List Item) (told : List Arrival) (fault : StackFault) (course : Course)
    (end : ConnEnd) → CourseStands called (text_given items) told course → course.fault ≡ Some fault
    → (end ≡ conn_ends.Declined → ⊥) → HasToldAll items told end
all_broken items told fault course end s e other =
    all_read items told end
    (sym (ap (λ (r : Reading). r.told) (reading_only (text_given items) told (Some fault)
    (subst (λ (f : Option StackFault). MatchOption f
    (courses.ReadsMessages called (text_given items) told course)
    (λ g. StopsTelling called (text_given items) told g)) e s.reads)))) other

-- at the link's end
pub all_ended : (rows : CentreRows) (items : List Item) (told : List Arrival) (turns : List Turn)
    (v : Talking) (end : ConnEnd) → Runs rows items told turns askeds.Nothing v
    → v.held ≡ Some comings.End → v.behind ≡ behinds.Nothing → (end ≡ conn_ends.Declined → ⊥)
    → HasToldAll items told end
all_ended rows items told turns v end r held behind other =
    let clear : v.course.fault ≡ None =
    ap (λ (p : Position). p.fault) r.at
    ∙ ap (λ (h : Option Coming). (position_by v.stage askeds.Nothing h).fault) held in
    let P : Option StackFault → Type 0 = λ f. MatchOption f
    (ReadsBy v.behind items told (turns ++ turns_held v.held) v)
    (λ fault. BeginsTurns (turns ++ turns_held v.held) (turns_of items)) in
    let d = subst (λ (b : Behind). ReadsBy b items told (turns ++ turns_held v.held) v) behind
    (subst P clear r.reads) in
    all_read items told end d.told_is other
