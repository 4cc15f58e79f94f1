-- A connection that has read what comes next: a message that is handed out, the rule that is
-- broken, or what comes behind all messages.
use Rattle.std.proofs.Common.{◌≡◌, ℕ, ◌+◌, ◌*◌, ◌<◌, ◌≤◌, Bool, true, false, List, [], ◌∷◌, ◌++◌}
use Rattle.std.proofs.Common.{Option, Some, None, Result, Ok, Err, refl, sym, ap, subst, ◌∙◌}
use Rattle.std.proofs.Common.{append_assoc, MatchOption, MatchBool, arith, get_or}
use Rattle.std.specs.Prelude.{IfSome, OnSome, IfOk, ◌||◌, Vec, vec_len, vec_capacity}
use Rattle.std.specs.declared.alloc.Global.{Global}
use Rattle.std.specs.List.{list_any, filter_map, cons_option}
use Rattle.std.proofs.lemmas.Bool.{false≢true}
use Rattle.std.proofs.lemmas.List.{append-nil}
use Rattle.std.proofs.lemmas.List.Elements.{filter_map-append}
use Rattle.bilateral.specs.Rows.{CentreRows}
use Rattle.stack_assoc.specs.declared.messages.fault.StackFault.{StackFault}
use Rattle.stack_assoc.specs.declared.messages.heard.Connecting.{Connecting}
use Rattle.stack_assoc.specs.declared.input.StackIn.{StackIn}
use Rattle.stack_assoc.specs.declared.end_state.EndState.{EndState}
use Rattle.stack_assoc.specs.Arrivals.{Arrival, asked, confirmed, gone, heard, called, connect_in}
use Rattle.stack_assoc.specs.Tellings.{Tells, StopsTelling}
use Rattle.stack_assoc.specs.Handing.{stack_in, handed_out, answers_to}
use Rattle.stack_assoc.specs.Courses.{Course, CourseStands, IsCourseSettled, GoesFurther, NothingLeft, IsLast, IsNextAnswer}
use Rattle.stack_assoc.specs.Courses.{is_offered, standing_with, standing_behind, stack_state_of}
use Rattle.stack_assoc.specs.Courses.{state_with, fault_in}
use Rattle.stack_assoc.specs.Steps.{left_of}
use Rattle.tase_conn.specs.Map.Inputs.{Item, text_given}
use Rattle.tase_conn.specs.Map.Inputs as given
use Rattle.tase_conn.specs.Map.Readings.{Reading, reading_of}
use Rattle.tase_conn.specs.Map.Turns.{Turn, breaks, turn_in, fault_turns, turns_behind_octets, turns_of}
use Rattle.tase_conn.specs.Map.Asks.{begins, finishes, is_last}
use Rattle.tase_conn.specs.Map.Out.{detail_of}
use Rattle.tase_conn.proofs.OfMap.ReadingLaws.{reading, reading_only}
use Rattle.tase_conn.proofs.OfMap.Fronts.{last_comes, last_lawful, first_kept}
use Rattle.tase_conn.proofs.OfMap.TurnsRead.{turns_heard, heard-append}
use Rattle.tase_conn.specs.declared.stage.Stage.{Stage}
use Rattle.tase_conn.specs.declared.stage.Stage.TheVariants as stages
use Rattle.tase_conn.specs.declared.stage.Behind.{Behind}
use Rattle.tase_conn.specs.declared.stage.Behind.TheVariants as behinds
use Rattle.tase_conn.specs.declared.stage.Coming.{Coming}
use Rattle.tase_conn.specs.declared.stage.Coming.TheVariants as comings
use Rattle.tase_conn.specs.declared.stage.PendingEvent.TheVariants as askeds
use Rattle.tase_conn.specs.declared.stage.Progress.{Progress}
use Rattle.tase_conn.specs.declared.stage.Progress.TheVariants as progresses
use Rattle.tase_conn.specs.Talking.{Talking, stage_peer}
use Rattle.tase_conn.specs.Places.{IsPassed}
use Rattle.tase_conn.specs.Places.{turns_held, turn_listed, BeginsTurns, IsDone, IsWithin, ReadsBy, HasRead}
use Rattle.tase_conn.specs.Places.{IsDue, IsAgreed, Position, position_of, position_at, position_by}
use Rattle.tase_conn.specs.Places.{with_coming, Reach, reach_of, reach_at, has_begun, standing_at}
use Rattle.tase_conn.specs.Places.{Runs, behind_of, GoesBy, IsPeer, HasAbortRoom, RoomBy, ConnStandsAt}
use Rattle.tase_conn.specs.Wanting.{Passes, IsIdle}
use Rattle.tase_conn.specs.Acting.{coming_behind, is_left, has_more, weight_behind, weight_held}
use Rattle.tase_conn.specs.Acting.{steps_left}
use Rattle.tase_conn.proofs.Placing.{same_position}
use Rattle.tase_conn.proofs.SeenTurns.{within_turns}
use Rattle.tase_conn.proofs.Noted.{connected, quiet_standing, known_by, quiet_known}
use Rattle.tase_conn.proofs.Noted.{IsNext, IsNoted, noted}

-- ---- before it has

-- it reads on within an item, and no event waits
pub record ReadsOn (rows : CentreRows) (items : List Item) (told : List Arrival) (turns : List Turn)
    (v : Talking) : Type 0 where
  pub stands : CourseStands called (text_given items) told v.course
  pub within : IsWithin items told turns v
  pub at : position_of told v.course ≡ position_at v.stage
  pub reached : reach_of rows turns ≡ reach_at v.stage
  pub agreed : IsAgreed told v.stage askeds.Nothing

within_by : (items : List Item) (told : List Arrival) (seen : List Turn) (v : Talking)
    (fault : Option StackFault) (behind : Behind) → fault ≡ None → is_left None behind ≡ true
    → MatchOption fault (ReadsBy behind items told seen v) (λ f. BeginsTurns seen (turns_of items))
    → IsWithin items told seen v
within_by items told seen v None behinds.Nothing e m r = absurd (false≢true m)
within_by items told seen v None behinds.Pause e m r = r
within_by items told seen v None behinds.End e m r = r
within_by items told seen v (Some f) behind e m r = absurd cc

pub reads_on : (rows : CentreRows) (items : List Item) (told : List Arrival) (turns : List Turn)
    (v : Talking) → Runs rows items told turns askeds.Nothing v → v.held ≡ None
    → has_more v ≡ true → ReadsOn rows items told turns v
reads_on rows items told turns v r empty more =
    let at : position_of told v.course ≡ position_at v.stage = r.at
    ∙ ap (λ (held : Option Coming). position_by v.stage askeds.Nothing held) empty in
    let fault = ap (λ (p : Position). p.fault) at in
    let seen : turns ++ turns_held v.held ≡ turns =
    ap (λ (held : Option Coming). turns ++ turns_held held) empty ∙ append-nil turns in
    record {
      stands = r.stands;
      within = subst (λ (ts : List Turn). IsWithin items told ts v) seen
          (within_by items told (turns ++ turns_held v.held) v v.course.fault v.behind fault
          (subst (λ (held : Option Coming). is_left held v.behind ≡ true) empty more) r.reads);
      at = at;
      reached = r.reached;
      agreed = r.agreed;
    }

-- ---- once it has

-- this comes next
abbrev pub fetched : Course → List ℕ → Coming → Behind → Talking → Talking
fetched course out coming behind old = record old {
  course = course;
  out = out;
  held = Some coming;
  behind = behind;
}

-- it stands so with more messages told, where this comes next
pub record IsHeld (items : List Item) (told later : List Arrival) (turns : List Turn)
    (coming : Coming) (stage : Stage) (new : Talking) : Type 0 where
  pub stands : CourseStands called (text_given items) (told ++ later) new.course
  pub reads : HasRead items (told ++ later) (turns ++ turns_held (Some coming)) new
  pub due : IsDue (told ++ later) stage coming
  pub passed : IsPassed (Some coming) new.behind askeds.Nothing
  pub at : position_of (told ++ later) new.course ≡ with_coming coming (position_at stage)

agreed_more : (told later : List Arrival) (stage : Stage)
    → connected told ≡ has_begun stage → IsAgreed told stage askeds.Nothing → IsAgreed (told ++ later) stage askeds.Nothing
agreed_more told later stages.Early c a = tt
agreed_more told later (stages.Open peer detail) c a =
    a ∙ ap (λ (o : Option Connecting). detail_of o) (sym (first_kept connect_in told later c))
agreed_more told later (stages.Closed peer) c a = tt

pub runs_on : (rows : CentreRows) (items : List Item) (told later : List Arrival)
    (turns : List Turn) (coming : Coming) (old : Talking) (course : Course) (out : List ℕ)
    (behind : Behind) → ReadsOn rows items told turns old
    → IsHeld items told later turns coming old.stage (fetched course out coming behind old)
    → Runs rows items (told ++ later) turns askeds.Nothing (fetched course out coming behind old)
runs_on rows items told later turns coming old course out behind r h = record {
  stands = h.stands;
  reads = h.reads;
  due = h.due;
  passed = h.passed;
  at = h.at;
  reached = r.reached;
  agreed = agreed_more told later old.stage (ap (λ (p : Position). p.connected) r.at) r.agreed;
  waits = tt;
  last = tt;
}

-- ---- a message that is handed out

listed_one : (o : Option Turn) → cons_option o [] ≡ turn_listed o
listed_one None = refl
listed_one (Some turn) = refl

one_out : (o : Option StackIn) (input : StackIn) → cons_option o [] ≡ input ∷ []
    → o ≡ Some input
one_out None input e = absurd cc
one_out (Some other) input e =
    ap (λ (is : List StackIn). Some (get_or is 0 input)) e

handed_last : (passed later : List Arrival) (last : Arrival) (input : StackIn)
    → handed_out passed ≡ [] → later ≡ passed ++ last ∷ [] → handed_out later ≡ input ∷ []
    → stack_in last ≡ Some input
handed_last passed later last input quiet is e =
    one_out (stack_in last) input
    (sym (ap (λ (ts : List Arrival). handed_out ts) is
    ∙ filter_map-append stack_in passed (last ∷ [])
    ∙ ap (λ (is : List StackIn). is ++ handed_out (last ∷ [])) quiet) ∙ e)

-- an item is read on
within_more : (items : List Item) (told later : List Arrival) (turns : List Turn)
    (input : StackIn) (old new : Talking) → handed_out later ≡ input ∷ []
    → new.behind ≡ old.behind → IsWithin items told turns old
    → IsWithin items (told ++ later) (turns ++ turn_listed (turn_in input)) new
within_more items told later turns input old new out behind w =
    let first = (reading_of (text_given w.done)).told in
    let one : turns_heard later ≡ turn_listed (turn_in input) =
    ap (λ (is : List StackIn). filter_map turn_in is) out ∙ listed_one (turn_in input) in
    record {
      done = w.done;
      item = w.item;
      is = w.is;
      behind = behind ∙ w.behind;
      later = w.later ++ later;
      told_is = ap (λ (ts : List Arrival). ts ++ later) w.told_is
          ∙ append_assoc first w.later later;
      unbroken = w.unbroken;
      seen_is = ap (λ (ts : List Turn). ts ++ turn_listed (turn_in input)) w.seen_is
          ∙ append_assoc (turns_of w.done) (turns_heard w.later) (turn_listed (turn_in input))
          ∙ ap (λ (ts : List Turn). turns_of w.done ++ ts)
          (ap (λ (ts : List Turn). turns_heard w.later ++ ts) (sym one)
          ∙ sym (heard-append w.later later));
    }

within_behind : (items : List Item) (told : List Arrival) (seen : List Turn) (v : Talking)
    (behind : Behind) (item : Item) → behind ≡ behind_of item → IsWithin items told seen v
    → ReadsBy behind items told seen v
within_behind items told seen v behinds.Pause item e w = w
within_behind items told seen v behinds.End item e w = w
within_behind items told seen v behinds.Nothing (given.piece octets) e w = absurd cc
within_behind items told seen v behinds.Nothing given.idle e w = absurd cc
within_behind items told seen v behinds.Nothing given.ended e w = absurd cc

-- where no rule is broken
read_by : (items : List Item) (told : List Arrival) (seen : List Turn) (v : Talking)
    → v.course.fault ≡ None → ReadsBy v.behind items told seen v → HasRead items told seen v
read_by items told seen v e r =
    subst (λ (fault : Option StackFault). MatchOption fault (ReadsBy v.behind items told seen v)
    (λ f. BeginsTurns seen (turns_of items))) (sym e) r

standing_more : (passed : List Arrival) (last : Arrival) (s : EndState) → handed_out passed ≡ []
    → standing_behind s (passed ++ last ∷ []) ≡ standing_with s last
standing_more [] last s e = refl
standing_more (asked r ∷ passed) last s e = standing_more passed last s e
standing_more (confirmed c ∷ passed) last s e = standing_more passed last s e
standing_more (gone ∷ passed) last s e = absurd cc
standing_more (heard h ∷ passed) last s e = absurd cc

-- where all that was read was acted on
known_rest : (told : List Arrival) (stage : Stage) (course : Course)
    → position_of told course ≡ position_at stage
    → known_by told (standing_at stage) ≡ position_at stage
known_rest told stage course e = ap (λ (p : Position).
    record p { fault = None; standing = standing_at stage }) e

next_of_told : (rows : CentreRows) (items : List Item) (told later : List Arrival)
    (turns : List Turn) (old : Talking) (course : Course) → ReadsOn rows items told turns old
    → CourseStands called (text_given items) (told ++ later) course → (l : IsLast told later course)
    → IsNext (told ++ l.passed) l.last old.stage
next_of_told rows items told later turns old course r s l =
    let front = told ++ l.passed in
    let there : CourseStands called (text_given items) (front ++ l.last ∷ []) course =
    subst (λ (ts : List Arrival). CourseStands called (text_given items) ts course)
    (ap (λ (ts : List Arrival). told ++ ts) l.is ∙ sym (append_assoc told l.passed (l.last ∷ []))) s
    in
    record {
      comes = last_comes (text_given items) front l.last course there;
      lawful = last_lawful (text_given items) front l.last course there;
      known = ap (λ (s : EndState). known_by front s)
          (sym (quiet_standing l.passed (standing_at old.stage) l.quiet))
          ∙ quiet_known told l.passed (standing_at old.stage) l.quiet ∙ known_rest told old.stage old.course r.at;
    }

held_input : (rows : CentreRows) (items : List Item) (told later : List Arrival)
    (turns : List Turn) (input : StackIn) (old : Talking) (course : Course)
    (out written : List ℕ) → ReadsOn rows items told turns old → course.fault ≡ None
    → GoesFurther called (text_given items) told later old.course old.out course written
    → handed_out later ≡ input ∷ [] → IsLast told later course
    → IsHeld items told later turns (comings.Input input) old.stage
    (fetched course out (comings.Input input) old.behind old)
held_input rows items told later turns input old course out written r fault g handed l =
    let coming = comings.Input input in
    let new = fetched course out coming old.behind old in
    let front = told ++ l.passed in
    let all : front ++ l.last ∷ [] ≡ told ++ later =
    append_assoc told l.passed (l.last ∷ []) ∙ ap (λ (ts : List Arrival). told ++ ts) (sym l.is) in
    let standing : course.standing ≡ standing_with (standing_at old.stage) l.last = g.standing
    ∙ ap (λ (ts : List Arrival). standing_behind old.course.standing ts) l.is
    ∙ standing_more l.passed l.last old.course.standing l.quiet
    ∙ ap (λ (p : Position). standing_with p.standing l.last) r.at in
    let n : IsNoted front l.last old.stage input =
    noted front l.last old.stage input
    (next_of_told rows items told later turns old course r g.stands l)
    (handed_last l.passed later l.last input l.quiet l.is handed) in
    record {
      stands = g.stands;
      reads = read_by items (told ++ later) (turns ++ turn_listed (turn_in input)) new fault
          (within_behind items (told ++ later) (turns ++ turn_listed (turn_in input)) new old.behind
          r.within.item r.within.behind
          (within_more items told later turns input old new handed refl r.within));
      due = subst (λ (ts : List Arrival). IsDue ts old.stage coming) all n.due;
      passed = tt;
      at = rw (fault, standing) (ap (λ (ts : List Arrival). known_by ts
          (standing_with (standing_at old.stage) l.last)) (sym all) ∙ n.known);
    }

-- ---- what comes behind all messages, or a rule that is broken

-- what comes next is no message
abbrev NoInput : Coming → Type 0
NoInput (comings.Input input) = ⊥
NoInput _ = Unit {0}

still : (coming : Coming) → NoInput coming → (old new : Position) → old ≡ new
    → record old { fault = (with_coming coming new).fault } ≡ with_coming coming new
still (comings.Input input) n old new e = absurd n
still (comings.Fault f) n old new e = ap (λ (p : Position). record p { fault = Some f }) e
still comings.Pause n old new e = ap (λ (p : Position). record p { fault = new.fault }) e
still comings.End n old new e = ap (λ (p : Position). record p { fault = new.fault }) e

due_always : (told : List Arrival) (stage : Stage) (coming : Coming) → NoInput coming
    → IsDue told stage coming
due_always told stage (comings.Input input) n = absurd n
due_always told stage (comings.Fault f) n = tt
due_always told stage comings.Pause n = tt
due_always told stage comings.End n = tt

passed_always : (coming : Coming) → IsPassed (Some coming) behinds.Nothing askeds.Nothing
passed_always (comings.Input input) = tt
passed_always (comings.Fault fault) = tt
passed_always comings.Pause = refl
passed_always comings.End = refl

held_other : (rows : CentreRows) (items : List Item) (told later : List Arrival)
    (turns : List Turn) (coming : Coming) (old : Talking) (course : Course)
    (out written : List ℕ) → ReadsOn rows items told turns old
    → course.fault ≡ (with_coming coming (position_at old.stage)).fault
    → GoesFurther called (text_given items) told later old.course old.out course written
    → handed_out later ≡ [] → NoInput coming
    → HasRead items (told ++ later) (turns ++ turns_held (Some coming))
    (fetched course out coming behinds.Nothing old)
    → IsHeld items told later turns coming old.stage
    (fetched course out coming behinds.Nothing old)
held_other rows items told later turns coming old course out written r fault g handed n reads =
    record {
      stands = g.stands;
      reads = reads;
      due = due_always (told ++ later) old.stage coming n;
      passed = passed_always coming;
      at = rw (fault, g.standing) (still coming n (known_by (told ++ later)
          (standing_behind old.course.standing later)) (position_at old.stage)
          (quiet_known told later old.course.standing handed
          ∙ ap (λ (p : Position). record p { fault = None }) r.at));
    }

-- what the items tell, where nothing more was handed out
quiet_turns : (items : List Item) (told later : List Arrival) (turns : List Turn) (v : Talking)
    (broken : Option StackFault) (w : IsWithin items told turns v) → handed_out later ≡ []
    → reading_of (text_given items) ≡ reading (told ++ later) broken
    → turns_of items ≡ turns ++ (fault_turns broken ++ turns_behind_octets w.item)
quiet_turns items told later turns v broken w handed e =
    within_turns items told turns v w later (ap (λ (r : Reading). r.told) e)
    ∙ ap (λ (is : List StackIn). turns ++ (filter_map turn_in is
    ++ (fault_turns (reading_of (text_given items)).broken ++ turns_behind_octets w.item))) handed
    ∙ ap (λ (r : Reading). turns ++ (fault_turns r.broken ++ turns_behind_octets w.item)) e

behind_turns : (behind : Behind) (item : Item) → behind ≡ behind_of item
    → turns_held (Some (coming_behind behind)) ≡ turns_behind_octets item
behind_turns behind (given.piece octets) e =
    ap (λ (b : Behind). turns_held (Some (coming_behind b))) e
behind_turns behind given.idle e = ap (λ (b : Behind). turns_held (Some (coming_behind b))) e
behind_turns behind given.ended e = ap (λ (b : Behind). turns_held (Some (coming_behind b))) e

-- all of the items is read
done_behind : (items : List Item) (told later : List Arrival) (turns : List Turn) (old new : Talking)
    (rest : List ℕ) → IsWithin items told turns old → handed_out later ≡ []
    → Tells called (text_given items) (told ++ later) rest → IsCourseSettled new.course
    → IsDone items (told ++ later) (turns ++ turns_held (Some (coming_behind old.behind))) new
done_behind items told later turns old new rest w handed t settled =
    let e : reading_of (text_given items) ≡ reading (told ++ later) None =
    reading_only (text_given items) (told ++ later) None (rest, t) in
    record {
      told_is = sym (ap (λ (r : Reading). r.told) e);
      unbroken = ap (λ (r : Reading). r.broken) e;
      seen_is = ap (λ (ts : List Turn). turns ++ ts) (behind_turns old.behind w.item w.behind)
          ∙ sym (quiet_turns items told later turns old None w handed e);
      settled = settled;
    }

no_input : (behind : Behind) → NoInput (coming_behind behind)
no_input behinds.Nothing = tt
no_input behinds.Pause = tt
no_input behinds.End = tt

no_fault : (behind : Behind) (p : Position) → (with_coming (coming_behind behind) p).fault ≡ p.fault
no_fault behinds.Nothing p = refl
no_fault behinds.Pause p = refl
no_fault behinds.End p = refl

-- no offer stands where it reads on
unoffered : (stage : Stage) → is_offered (standing_at stage) ≡ false
unoffered stages.Early = refl
unoffered (stages.Open peer detail) = refl
unoffered (stages.Closed peer) = refl

left_nothing : (b : Bool) (octets : List ℕ) (told later : List Arrival) (new : Course)
    → b ≡ false → MatchBool b (later ≡ [])
    (((rest : List ℕ) × Tells called octets (told ++ later) rest) × IsCourseSettled new)
    → ((rest : List ℕ) × Tells called octets (told ++ later) rest) × IsCourseSettled new
left_nothing true octets told later new e n = absurd (false≢true (sym e))
left_nothing false octets told later new e n = n

held_behind : (rows : CentreRows) (items : List Item) (told later : List Arrival)
    (turns : List Turn) (old : Talking) (course : Course) (out written : List ℕ)
    → ReadsOn rows items told turns old → course.fault ≡ None
    → GoesFurther called (text_given items) told later old.course old.out course written
    → handed_out later ≡ []
    → NothingLeft called (text_given items) told later old.course course
    → IsHeld items told later turns (coming_behind old.behind) old.stage
    (fetched course out (coming_behind old.behind) behinds.Nothing old)
held_behind rows items told later turns old course out written r fault g handed left =
    let coming = coming_behind old.behind in
    let new = fetched course out coming behinds.Nothing old in
    let n = left_nothing (is_offered old.course.standing) (text_given items) told later course
    (ap (λ (p : Position). is_offered p.standing) r.at ∙ unoffered old.stage) left in
    held_other rows items told later turns coming old course out written r
    (fault ∙ sym (no_fault old.behind (position_at old.stage))) g handed (no_input old.behind)
    (read_by items (told ++ later) (turns ++ turns_held (Some coming)) new fault
    (done_behind items told later turns old new n.0.0 r.within handed n.0.1 n.1))

broken_begins : (items : List Item) (told later : List Arrival) (turns : List Turn) (old : Talking)
    (f : StackFault) → IsWithin items told turns old → handed_out later ≡ []
    → StopsTelling called (text_given items) (told ++ later) f
    → BeginsTurns (turns ++ breaks ∷ []) (turns_of items)
broken_begins items told later turns old f w handed stops =
    let e : reading_of (text_given items) ≡ reading (told ++ later) (Some f) =
    reading_only (text_given items) (told ++ later) (Some f) stops in (
      turns_behind_octets w.item,
      quiet_turns items told later turns old (Some f) w handed e
          ∙ sym (append_assoc turns (breaks ∷ []) (turns_behind_octets w.item)),
    )

held_fault : (rows : CentreRows) (items : List Item) (told later : List Arrival)
    (turns : List Turn) (f : StackFault) (old : Talking) (course : Course)
    (out written : List ℕ) → ReadsOn rows items told turns old → course.fault ≡ Some f
    → GoesFurther called (text_given items) told later old.course old.out course written
    → handed_out later ≡ [] → StopsTelling called (text_given items) (told ++ later) f
    → IsHeld items told later turns (comings.Fault f) old.stage
    (fetched course out (comings.Fault f) behinds.Nothing old)
held_fault rows items told later turns f old course out written r fault g handed stops =
    held_other rows items told later turns (comings.Fault f) old course out written r fault g
    handed tt
    (subst (λ (o : Option StackFault). MatchOption o
    (IsDone items (told ++ later) (turns ++ breaks ∷ [])
    (fetched course out (comings.Fault f) behinds.Nothing old))
    (λ g. BeginsTurns (turns ++ breaks ∷ []) (turns_of items))) (sym fault)
    (broken_begins items told later turns old f r.within handed stops))

-- ---- it passes

room_by : (old new : Talking) → new.farewell ≡ old.farewell → HasAbortRoom old → HasAbortRoom new
room_by old new e h = record {
  room = subst (λ (v : Vec ℕ Global). vec_len v + 64 ≤ vec_capacity v) (sym e) h.room;
  unsaid = ap (λ (v : Vec ℕ Global). v.items) e ∙ h.unsaid;
}

pub idle_runs : (rows : CentreRows) (items : List Item) (told : List Arrival) (turns : List Turn)
    (v : Talking) → IsIdle v.progress → ConnStandsAt rows items told turns v
    → Runs rows items told turns askeds.Nothing v
idle_runs rows items told turns v idle s =
    subst (λ (p : Progress). GoesBy p rows items told turns v) idle s.goes

pub idle_room : (rows : CentreRows) (items : List Item) (told : List Arrival) (turns : List Turn)
    (v : Talking) → IsIdle v.progress → ConnStandsAt rows items told turns v → HasAbortRoom v
idle_room rows items told turns v idle s = subst (λ (p : Progress). RoomBy p v) idle s.room

-- it stands so, with the same association and what is said at its end
pub idle_stands : (rows : CentreRows) (items : List Item) (told there : List Arrival)
    (turns : List Turn) (old new : Talking) → IsIdle old.progress → new.progress ≡ old.progress
    → new.rows ≡ old.rows → new.stage ≡ old.stage → new.farewell ≡ old.farewell
    → ConnStandsAt rows items told turns old → Runs rows items there turns askeds.Nothing new
    → ConnStandsAt rows items there turns new
idle_stands rows items told there turns old new idle progress same stage farewell s r =
    let now : progresses.Running askeds.Nothing ≡ new.progress = sym (progress ∙ idle) in
    record {
      rows_are = same ∙ s.rows_are;
      peer = subst (λ (g : Stage). IfSome (stage_peer g) (IsPeer rows)) (sym stage) s.peer;
      goes = subst (λ (p : Progress). GoesBy p rows items there turns new) now r;
      room = subst (λ (p : Progress). RoomBy p new) now
          (room_by old new farewell (idle_room rows items told turns old idle s));
    }

said_on : (old answers new farewell : List ℕ) → farewell ≡ [] → new ≡ old ++ answers
    → new ++ farewell ≡ (old ++ farewell) ++ answers
said_on old answers new farewell none e =
    ap (λ (os : List ℕ). new ++ os) none ∙ append-nil new ∙ e
    ∙ ap (λ (os : List ℕ). os ++ answers)
    (sym (append-nil old) ∙ ap (λ (os : List ℕ). old ++ os) (sym none))

passes_on : (rows : CentreRows) (items : List Item) (told later : List Arrival)
    (turns : List Turn) (coming : Coming) (old : Talking) (course : Course) (out : List ℕ)
    (behind : Behind) → IsIdle old.progress → ConnStandsAt rows items told turns old
    → ReadsOn rows items told turns old
    → IsHeld items told later turns coming old.stage (fetched course out coming behind old)
    → out ≡ old.out ++ answers_to called later
    → Passes rows items told turns old (fetched course out coming behind old)
passes_on rows items told later turns coming old course out behind idle s r h written =
    let new = fetched course out coming behind old in
    let room = idle_room rows items told turns old idle s in
    record {
      later = later;
      more = [];
      stands = subst (λ (ts : List Turn). ConnStandsAt rows items (told ++ later) ts new)
          (sym (append-nil turns))
          (idle_stands rows items told (told ++ later) turns old new idle refl refl refl refl s
          (runs_on rows items told later turns coming old course out behind r h));
      asks_are = refl;
      quiet = λ setup. refl;
      said = said_on old.out (answers_to called later) out old.farewell.items room.unsaid written;
    }

-- what it stands for, where it reads on
started : (rows : CentreRows) (items : List Item) (told : List Arrival) (turns : List Turn)
    (v : Talking) → IsIdle v.progress → v.held ≡ None → has_more v ≡ true
    → ConnStandsAt rows items told turns v → ReadsOn rows items told turns v
started rows items told turns v idle empty more s =
    reads_on rows items told turns v (idle_runs rows items told turns v idle s) empty more

-- a message was handed out
pub passes_input : (rows : CentreRows) (items : List Item) (told : List Arrival)
    (turns : List Turn) (input : StackIn) (old : Talking) (course : Course) (out : List ℕ)
    → IsIdle old.progress → old.held ≡ None → has_more old ≡ true
    → ConnStandsAt rows items told turns old → course.fault ≡ None
    → IsNextAnswer called (text_given items) told old.course old.out (Ok (Some input)) course out
    → Passes rows items told turns old (fetched course out (comings.Input input) old.behind old)
passes_input rows items told turns input old course out idle empty more s fault a =
    let r = started rows items told turns old idle empty more s in
    passes_on rows items told a.0 turns (comings.Input input) old course out old.behind idle s r
    (held_input rows items told a.0 turns input old course out out r fault a.1 a.2 a.3)
    a.1.answered

-- all was read
pub passes_behind : (rows : CentreRows) (items : List Item) (told : List Arrival)
    (turns : List Turn) (old : Talking) (course : Course) (out : List ℕ)
    → IsIdle old.progress → old.held ≡ None → has_more old ≡ true
    → ConnStandsAt rows items told turns old → course.fault ≡ None
    → IsNextAnswer called (text_given items) told old.course old.out (Ok None) course out
    → Passes rows items told turns old
    (fetched course out (coming_behind old.behind) behinds.Nothing old)
passes_behind rows items told turns old course out idle empty more s fault a =
    let r = started rows items told turns old idle empty more s in
    passes_on rows items told a.0 turns (coming_behind old.behind) old course out behinds.Nothing
    idle s r (held_behind rows items told a.0 turns old course out out r fault a.1 a.2 a.3)
    a.1.answered

-- a rule is broken
pub passes_fault : (rows : CentreRows) (items : List Item) (told : List Arrival)
    (turns : List Turn) (f : StackFault) (old : Talking) (course : Course) (out : List ℕ)
    → IsIdle old.progress → old.held ≡ None → has_more old ≡ true
    → ConnStandsAt rows items told turns old → course.fault ≡ Some f
    → IsNextAnswer called (text_given items) told old.course old.out (Err f) course out
    → Passes rows items told turns old
    (fetched course out (comings.Fault f) behinds.Nothing old)
passes_fault rows items told turns f old course out idle empty more s fault a =
    let r = started rows items told turns old idle empty more s in
    passes_on rows items told a.0 turns (comings.Fault f) old course out behinds.Nothing idle s r
    (held_fault rows items told a.0 turns f old course out out r fault a.1 a.2 a.3) a.1.answered

-- ---- after want of memory

unbroken_by : (fault : Option StackFault) (stage : Stage)
    → state_with fault (standing_at stage) ≡ state_with None (standing_at stage) → fault ≡ None
unbroken_by None stage e = refl
unbroken_by (Some f) stages.Early e = absurd cc
unbroken_by (Some f) (stages.Open peer detail) e = absurd cc
unbroken_by (Some f) (stages.Closed peer) e = absurd cc

within_same : (items : List Item) (told : List Arrival) (seen : List Turn) (old new : Talking)
    → new.behind ≡ old.behind → IsWithin items told seen old → IsWithin items told seen new
within_same items told seen old new e w = record {
  done = w.done;
  item = w.item;
  is = w.is;
  behind = e ∙ w.behind;
  later = w.later;
  told_is = w.told_is;
  unbroken = w.unbroken;
  seen_is = w.seen_is;
}

abbrev with_course : Course → Talking → Talking
with_course course v = record v { course = course }

-- it stands where it stood
stands_kept : (rows : CentreRows) (items : List Item) (told : List Arrival)
    (turns : List Turn) (old : Talking) (course : Course) → IsIdle old.progress
    → old.held ≡ None → has_more old ≡ true → ConnStandsAt rows items told turns old
    → CourseStands called (text_given items) told course → course.standing ≡ old.course.standing
    → stack_state_of course ≡ stack_state_of old.course
    → ConnStandsAt rows items told turns (with_course course old)
stands_kept rows items told turns old course idle empty more s there standing state =
    let new = with_course course old in
    let r = idle_runs rows items told turns old idle s in
    let x = reads_on rows items told turns old r empty more in
    let rests = ap (λ (p : Position). p.standing) x.at in
    let fault : course.fault ≡ None =
    unbroken_by course.fault old.stage
    (ap (λ (g : EndState). state_with course.fault g) (sym (standing ∙ rests)) ∙ state
    ∙ ap (λ (p : Position). state_with p.fault p.standing) x.at) in
    let seen : turns ≡ turns ++ turns_held old.held =
    sym (append-nil turns) ∙ ap (λ (held : Option Coming). turns ++ turns_held held) (sym empty) in
    let w = within_same items told turns old new refl x.within in
    idle_stands rows items told told turns old new idle refl refl refl refl s (record {
      stands = there;
      reads = subst (λ (ts : List Turn). HasRead items told ts new) seen
          (read_by items told turns new fault
          (within_behind items told turns new old.behind w.item w.behind w));
      due = r.due;
      passed = r.passed;
      at = same_position told old.course course
          (fault ∙ sym (ap (λ (p : Position). p.fault) x.at)) standing ∙ r.at;
      reached = r.reached;
      agreed = r.agreed;
      waits = tt;
      last = tt;
    })

-- where it was seen so before
pub stands_again : (rows : CentreRows) (items : List Item) (told : List Arrival)
    (turns : List Turn) (view old new : Talking) (course : Course) → view ≡ old
    → IsIdle old.progress → old.held ≡ None → has_more old ≡ true
    → ConnStandsAt rows items told turns old
    → (CourseStands called (text_given items) told view.course → CourseStands called (text_given items) told course)
    → course.standing ≡ view.course.standing → stack_state_of course ≡ stack_state_of view.course
    → new ≡ record view { course = course } → ConnStandsAt rows items told turns new
stands_again rows items told turns view old new course seen idle empty more s kept standing state
    is =
    let there : CourseStands called (text_given items) told course =
    kept (subst (λ (v : Talking). CourseStands called (text_given items) told v.course) (sym seen)
    (idle_runs rows items told turns old idle s).stands) in
    let now : with_course course old ≡ new =
    sym (is ∙ ap (λ (v : Talking). with_course course v) seen) in
    subst (λ (v : Talking). ConnStandsAt rows items told turns v) now
    (stands_kept rows items told turns old course idle empty more s there
    (standing ∙ ap (λ (v : Talking). v.course.standing) seen)
    (state ∙ ap (λ (v : Talking). stack_state_of v.course) seen))

-- ---- how much is left

lighter_by : (behind : Behind) (old new : Course) → is_left None behind ≡ true
    → left_of new < left_of old
    → 2 * weight_behind behind new + 1 < 2 * weight_behind behind old + 0
lighter_by behinds.Nothing old new more less = absurd (false≢true more)
lighter_by behinds.Pause old new more less = omega (arith, less)
lighter_by behinds.End old new more less = omega (arith, less)

pub lighter_input : (coming : Coming) (old : Talking) (course : Course) (out : List ℕ)
    → old.held ≡ None → has_more old ≡ true → left_of course < left_of old.course
    → steps_left (fetched course out coming old.behind old) < steps_left old
lighter_input coming old course out empty more less =
    subst (λ (held : Option Coming). 2 * weight_behind old.behind course + 1
    < 2 * weight_behind old.behind old.course + weight_held held) (sym empty)
    (lighter_by old.behind old.course course
    (subst (λ (held : Option Coming). is_left held old.behind ≡ true) empty more) less)

least_by : (behind : Behind) (old new : Course) → is_left None behind ≡ true
    → 2 * weight_behind behinds.Nothing new + 1 < 2 * weight_behind behind old + 0
least_by behinds.Nothing old new more = absurd (false≢true more)
least_by behinds.Pause old new more = omega arith
least_by behinds.End old new more = omega arith

pub lighter_behind : (coming : Coming) (old : Talking) (course : Course) (out : List ℕ)
    → old.held ≡ None → has_more old ≡ true
    → steps_left (fetched course out coming behinds.Nothing old) < steps_left old
lighter_behind coming old course out empty more =
    subst (λ (held : Option Coming). 2 * weight_behind behinds.Nothing course + 1
    < 2 * weight_behind old.behind old.course + weight_held held) (sym empty)
    (least_by old.behind old.course course
    (subst (λ (held : Option Coming). is_left held old.behind ≡ true) empty more))

-- ---- by what the stack has answered

abbrev pub fetched_by : Result (Option StackIn) StackFault → Course → List ℕ → Talking → Talking
fetched_by (Ok (Some input)) course out old =
    fetched course out (comings.Input input) old.behind old
fetched_by (Ok None) course out old =
    fetched course out (coming_behind old.behind) behinds.Nothing old
fetched_by (Err f) course out old = fetched course out (comings.Fault f) behinds.Nothing old

passes_by : (rows : CentreRows) (items : List Item) (told : List Arrival) (turns : List Turn)
    (answer : Result (Option StackIn) StackFault) (old : Talking) (course : Course)
    (out : List ℕ) → IsIdle old.progress → old.held ≡ None → has_more old ≡ true
    → ConnStandsAt rows items told turns old → course.fault ≡ fault_in answer
    → IsNextAnswer called (text_given items) told old.course old.out answer course out
    → Passes rows items told turns old (fetched_by answer course out old)
passes_by rows items told turns (Ok (Some input)) old course out idle empty more s fault a =
    passes_input rows items told turns input old course out idle empty more s fault a
passes_by rows items told turns (Ok None) old course out idle empty more s fault a =
    passes_behind rows items told turns old course out idle empty more s fault a
passes_by rows items told turns (Err f) old course out idle empty more s fault a =
    passes_fault rows items told turns f old course out idle empty more s fault a

-- where it was seen so before, and is so now
pub passes_fetched : (rows : CentreRows) (items : List Item) (told : List Arrival)
    (turns : List Turn) (answer : Result (Option StackIn) StackFault) (view old new : Talking)
    (course : Course) (out : List ℕ) → view ≡ old → IsIdle old.progress → old.held ≡ None
    → has_more old ≡ true → ConnStandsAt rows items told turns old → course.fault ≡ fault_in answer
    → (CourseStands called (text_given items) told view.course
    → IsNextAnswer called (text_given items) told view.course view.out answer course out)
    → new ≡ fetched_by answer course out view → Passes rows items told turns old new
passes_fetched rows items told turns answer view old new course out seen idle empty more s fault a
    is =
    let stands : CourseStands called (text_given items) told old.course =
    (idle_runs rows items told turns old idle s).stands in
    let answers : IsNextAnswer called (text_given items) told old.course old.out answer course out =
    subst (λ (v : Talking). IsNextAnswer called (text_given items) told v.course v.out answer course out)
    seen (a (subst (λ (v : Talking). CourseStands called (text_given items) told v.course) (sym seen)
    stands)) in
    subst (λ (v : Talking). Passes rows items told turns old v)
    (sym (is ∙ ap (λ (v : Talking). fetched_by answer course out v) seen))
    (passes_by rows items told turns answer old course out idle empty more s fault answers)

lighter_for : (answer : Result (Option StackIn) StackFault) (old : Talking) (course : Course)
    (out : List ℕ) → old.held ≡ None → has_more old ≡ true
    → IfOk answer (λ (input : Option StackIn). OnSome input (left_of course < left_of old.course))
    → steps_left (fetched_by answer course out old) < steps_left old
lighter_for (Ok (Some input)) old course out empty more less =
    lighter_input (comings.Input input) old course out empty more less
lighter_for (Ok None) old course out empty more less =
    lighter_behind (coming_behind old.behind) old course out empty more
lighter_for (Err f) old course out empty more less =
    lighter_behind (comings.Fault f) old course out empty more

pub lighter_fetched : (answer : Result (Option StackIn) StackFault) (view old new : Talking)
    (course : Course) (out : List ℕ) → view ≡ old → old.held ≡ None → has_more old ≡ true
    → IfOk answer (λ (input : Option StackIn). OnSome input
    (left_of course < left_of view.course)) → new ≡ fetched_by answer course out view
    → steps_left new < steps_left old
lighter_fetched answer view old new course out seen empty more less is =
    subst (λ (v : Talking). steps_left v < steps_left old)
    (sym (is ∙ ap (λ (v : Talking). fetched_by answer course out v) seen))
    (lighter_for answer old course out empty more
    (subst (λ (v : Talking). IfOk answer (λ (input : Option StackIn). OnSome input
    (left_of course < left_of v.course))) seen less))
