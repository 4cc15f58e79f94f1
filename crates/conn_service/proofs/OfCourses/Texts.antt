-- What the whole text of an association fixes, by what was told of it once a connect has come.
use Rattle.std.proofs.Common.{◌≡◌, ℕ, true, List, [], ◌++◌, None}
use Rattle.std.proofs.Common.{sym, ap, subst, ◌∙◌, append_assoc}
use Rattle.std.specs.Prelude.{is_some}
use Rattle.std.proofs.lemmas.List.{append-nil, append_cancel_left}
use Rattle.std.proofs.lemmas.Grind.{flat_map-append}
use Rattle.stack_assoc.specs.Arrivals.{Arrival, called, first_in, connect_in}
use Rattle.stack_assoc.specs.Handing.{answer_to, answers_to}
use Rattle.stack_assoc.specs.Expectations.{setup_after}
use Rattle.stack_assoc.specs.Courses.{Course, CourseStands}
use Rattle.tase_conn.specs.Map.Inputs.{Item, given_octets, text_given, link_has_ended, IsLinkInput}
use Rattle.tase_conn.specs.Map.Readings.{Reading, reading_of}
use Rattle.tase_conn.specs.Map.Turns.{Turn, turns_told, turns_of}
use Rattle.tase_conn.specs.Map.Asks.{without_pauses}
use Rattle.tase_conn.specs.Map.Out.{end_turns}
use Rattle.tase_conn.proofs.OfMap.ReadingLaws.{reading_only}
use Rattle.tase_conn.proofs.OfMap.Uncut.{uncut_from}
use Rattle.tase_conn.proofs.OfMap.TurnOrder.{nothing_said}
use Rattle.tase_conn.proofs.OfMap.Fronts.{HasFront, has_front, whole_front, front_read, first_kept}
use Rattle.tase_conn.proofs.OfMap.Fronts.{setup_fixed, answers_kept}

-- ---- fronts of a text

pub text-append : (items more : List Item) → text_given (items ++ more) ≡ text_given items ++ text_given more
text-append items more = flat_map-append given_octets items more

-- with more behind it
pub longer_front : (items more : List Item) (told : List Arrival) → HasFront (text_given items) told
    → HasFront (text_given (items ++ more)) told
longer_front items more told f = record {
  messages = f.messages;
  starts = record {
    whole = f.starts.whole;
    more = f.starts.more ++ text_given more;
    is = text-append items more
        ∙ ap (λ (os : List ℕ). os ++ text_given more) f.starts.is
        ∙ append_assoc f.starts.whole f.starts.more (text_given more);
    spelled = f.starts.spelled;
  };
  tell = f.tell;
}

-- ---- what is answered at once

pub answers-append : (told others : List Arrival)
    → answers_to called (told ++ others) ≡ answers_to called told ++ answers_to called others
answers-append told others = flat_map-append (answer_to called) told others

-- nothing more behind a connect
pub connected_once : (octets : List ℕ) (told later : List Arrival)
    → is_some (first_in connect_in told) ≡ true → HasFront octets (told ++ later)
    → answers_to called later ≡ []
connected_once octets told later c f =
    append_cancel_left (answers_to called told) (answers_to called later) []
    (sym (answers-append told later) ∙ answers_kept octets told later f c
    ∙ sym (append-nil (answers_to called told)))

-- ---- what is fixed

-- what the whole text fixes is what was told of it
pub record IsFixed (told : List Arrival) (course : Course) (whole : Reading) : Type 0 where
  pub answered : answers_to called whole.told ≡ answers_to called told
  pub setup : setup_after whole.told ≡ setup_after told
  pub first : first_in connect_in whole.told ≡ first_in connect_in told
  pub course_setup : course.setup ≡ setup_after told

pub fixed_over : (items more : List Item) (told : List Arrival) (v : Course)
    → CourseStands called (text_given items) told v → is_some (first_in connect_in told) ≡ true
    → IsFixed told v (reading_of (text_given (items ++ more)))
fixed_over items more told v s connect =
    let text = text_given (items ++ more) in
    let f = front_read text told
    (longer_front items more told (has_front (text_given items) told v s)) in
    let k = setup_fixed (text_given items) told v s connect in
    record {
      answered = ap (λ (ts : List Arrival). answers_to called ts) f.1
          ∙ answers_kept text told f.0
          (subst (λ (ts : List Arrival). HasFront text ts) f.1 (whole_front text)) connect;
      setup = ap (λ (ts : List Arrival). setup_after ts) f.1 ∙ k.1 f.0;
      first = ap (λ (ts : List Arrival). first_in connect_in ts) f.1
          ∙ first_kept connect_in told f.0 connect;
      course_setup = k.0;
    }

-- ---- its turns

nothing_told : turns_told (reading_of []) ≡ []
nothing_told =
    ap (λ (r : Reading). turns_told r)
    (reading_only [] [] None
    (nothing_said.0, record { messages = []; said = nothing_said.1; tell = tt }))

-- those of an input, but for its pauses, are those of its text, and its end
pub text_turns : (items : List Item) → IsLinkInput items
    → without_pauses (turns_of items)
    ≡ turns_told (reading_of (text_given items)) ++ end_turns (link_has_ended items)
text_turns items i =
    ap (λ (ts : List Turn). ts ++ without_pauses (turns_of items)) (sym nothing_told)
    ∙ uncut_from [] items i
