-- What `next` answers is right.
use Rattle.std.proofs.Common.{◌≡◌, ℕ, Bool, true, false, List, [], ◌∷◌, ◌++◌, Option, Some, None, IsSome}
use Rattle.std.proofs.Common.{MatchOption, MatchBool, Ok, Err, refl, sym, ap, subst, ◌∙◌, append_assoc}
use Rattle.std.proofs.Common.{inl}
use Rattle.std.proofs.lemmas.List.{append-nil}
use Rattle.tpkt_cotp.specs.Streams.{Message, asks, confirms, gone, tsdu}
use Rattle.tpkt_cotp.specs.Streams as streams
use Rattle.tpkt_cotp.specs.Lines as lines
use Rattle.stack_assoc.specs.declared.messages.expecting.Expecting.{Expecting}
use Rattle.stack_assoc.specs.declared.messages.fault.StackFault.{StackFault}
use Rattle.stack_assoc.specs.declared.messages.heard.Heard.{Heard}
use Rattle.stack_assoc.specs.Messages.Messages.{message}
use Rattle.stack_assoc.specs.declared.end_state.EndState.{EndState}
use Rattle.stack_assoc.specs.declared.end_state.EndState.TheVariants as standings
use Rattle.stack_assoc.specs.declared.taken.Opening.{Opening}
use Rattle.stack_assoc.specs.declared.taken.Opening.TheVariants as openings
use Rattle.stack_assoc.specs.declared.taken.Came.{Came}
use Rattle.stack_assoc.specs.declared.taken.Came.TheVariants as cames
use Rattle.stack_assoc.specs.declared.taken.Said.{Said}
use Rattle.stack_assoc.specs.declared.taken.Said.TheVariants as saids
use Rattle.stack_assoc.specs.Arrivals.{Arrival, heard, Role, called, calling, end_of}
use Rattle.stack_assoc.specs.Arrivals as tellings
use Rattle.stack_assoc.specs.Expectations.{expecting_after, setup_after}
use Rattle.stack_assoc.specs.Tellings.{TellsNext, Tells, StopsTelling}
use Rattle.stack_assoc.specs.Handing.{handed_out, answer_to, answers_to}
use Rattle.stack_assoc.specs.Knowing.{expecting_by}
use Rattle.stack_assoc.specs.Taking.{opening_told, opened, opening_listed, owed_octets, SaysMessage}
use Rattle.stack_assoc.specs.Courses.{Course, next_listed, ReadsMessages, CourseStands, standing_with, standing_behind}
use Rattle.stack_assoc.specs.Courses.{is_offered, IsCourseSettled, GoesFurther, NothingLeft, IsLast, IsNextAnswer}
use Rattle.stack_assoc.specs.Steps.{LeavesOff, TakesNext, IsNextTaken, told_with, told_answer}
use Rattle.stack_assoc.proofs.KnowingMore.{since_more, expecting_known}
use Rattle.stack_assoc.proofs.Answered.{tell_opened, answered, answered_stands, answers_owed, told_one}
use Rattle.stack_assoc.proofs.Answered.{told_stands, broken_stops, stopped_stands}

-- what goes before a message: it came in this call, and is owed an answer
pub record Before (role : Role) (octets : List ℕ) (told : List Arrival) (old v : Course)
    (out written : List ℕ) : Type 0 where
  pub clear : v.fault ≡ None
  pub stands : CourseStands role octets told v
  pub standing : v.standing ≡ old.standing
  pub free : is_offered old.standing ≡ false
  pub answered : written ≡ out ++ owed_octets v.known.side v.owed v.setup.size v.title

standing_opened : (s : EndState) (owed : Option Opening) → standing_behind s (opened owed) ≡ s
standing_opened s None = refl
standing_opened s (Some (openings.Request r)) = refl
standing_opened s (Some (openings.Confirm c)) = refl

standing_one : (s : EndState) (owed : Option Opening) (t : Arrival)
    → standing_behind s (opened owed ++ t ∷ []) ≡ standing_with s t
standing_one s None t = refl
standing_one s (Some (openings.Request r)) t = refl
standing_one s (Some (openings.Confirm c)) t = refl

nothing_handed : (owed : Option Opening) → handed_out (opened owed) ≡ []
nothing_handed None = refl
nothing_handed (Some (openings.Request r)) = refl
nothing_handed (Some (openings.Confirm c)) = refl

one_handed : (owed : Option Opening) (t : Arrival)
    → handed_out (opened owed ++ t ∷ []) ≡ handed_out (t ∷ [])
one_handed None t = refl
one_handed (Some (openings.Request r)) t = refl
one_handed (Some (openings.Confirm c)) t = refl

-- a message behind the opening isn't answered at once
abbrev IsQuiet : Arrival → Type 0
IsQuiet t = (role : Role) → answer_to role t ≡ []

quiet_heard : (h : Heard) → IsQuiet (heard h)
quiet_heard h called = refl
quiet_heard h (calling title said) = refl

quiet_gone : IsQuiet tellings.gone
quiet_gone called = refl
quiet_gone (calling title said) = refl

answers_quiet : (role : Role) (owed : Option Opening) (t : Arrival) → IsQuiet t
    → answers_to role (opened owed ++ t ∷ []) ≡ answers_to role (opened owed)
answers_quiet role None t quiet = ap (λ (os : List ℕ). os ++ []) (quiet role)
answers_quiet role (Some o) t quiet =
    ap (λ (os : List ℕ). answer_to role (opening_told o) ++ (os ++ [])) (quiet role)

-- the opening alone
goes_opened : (role : Role) (octets : List ℕ) (told : List Arrival) (old v : Course)
    (out written : List ℕ) → Before role octets told old v out written
    → GoesFurther role octets told (opened v.owed) old out (answered v) written
goes_opened role octets told old v out written b = record {
  stands = answered_stands role octets told v b.clear b.stands;
  standing = b.standing ∙ sym (standing_opened old.standing v.owed);
  answered = b.answered ∙ ap (λ (os : List ℕ). out ++ os)
      (answers_owed role octets told v b.clear b.stands);
}

-- and a message
goes_one : (role : Role) (octets : List ℕ) (told : List Arrival) (old v : Course) (t : Arrival)
    (m : Message) (standing : EndState) (out written : List ℕ)
    → Before role octets told old v out written → IsQuiet t → v.held ≡ Some m
    → TellsNext role (told ++ opened v.owed) t m → standing ≡ standing_with v.standing t
    → GoesFurther role octets told (opened v.owed ++ t ∷ []) old out (told_one t standing (answered v))
    written
goes_one role octets told old v t m standing out written b quiet is tells stood =
    let w = told_one t standing (answered v) in
    let P : List Arrival → Type 0 = λ ts. CourseStands role octets ts w in
    record {
      stands = subst P (append_assoc told (opened v.owed) (t ∷ []))
          (told_stands role octets (told ++ opened v.owed) v t m standing b.clear
          (answered_stands role octets told v b.clear b.stands) is tells);
      standing = stood ∙ ap (λ (s : EndState). standing_with s t) b.standing
          ∙ sym (standing_one old.standing v.owed t);
      answered = b.answered ∙ ap (λ (os : List ℕ). out ++ os)
          (answers_owed role octets told v b.clear b.stands
          ∙ sym (answers_quiet role v.owed t quiet));
    }

-- what the connect fixed is known behind it
known_setup : (role : Role) (octets : List ℕ) (told : List Arrival) (v : Course) (t : Arrival)
    (standing : EndState)
    → CourseStands role octets (told ++ (opened v.owed ++ t ∷ [])) (told_one t standing (answered v))
    → (told_one t standing (answered v)).setup ≡ setup_after (told ++ (opened v.owed ++ t ∷ []))
known_setup role octets told v t standing s =
    s.setup ∙ ap setup_after (append-nil (told ++ (opened v.owed ++ t ∷ [])))

is_last : (told : List Arrival) (owed : Option Opening) (t : Arrival) (new : Course)
    → new.setup ≡ setup_after (told ++ (opened owed ++ t ∷ []))
    → IsLast told (opened owed ++ t ∷ []) new
is_last told owed t new setup = record {
  passed = opened owed;
  last = t;
  is = refl;
  quiet = nothing_handed owed;
  setup = setup;
}

-- what is expected of the message
expected : (role : Role) (octets : List ℕ) (told : List Arrival) (old v : Course)
    (out written : List ℕ) → Before role octets told old v out written
    → expecting_by v.known v.setup.acse v.setup.mms ≡ expecting_after role (told ++ opened v.owed)
expected role octets told old v out written b =
    expecting_known role (told ++ opened v.owed) v.known v.setup b.stands.knows
    (since_more role told (opened v.owed) b.stands.since) b.stands.setup

answers_gone : (role : Role) (octets : List ℕ) (told : List Arrival) (old v : Course)
    (out written : List ℕ) (came : Came) → Before role octets told old v out written
    → v.held ≡ Some gone
    → IsNextAnswer role octets told old out (told_answer came saids.Gone)
    (told_with came saids.Gone (answered v)) written
answers_gone role octets told old v out written came b is =
    let g = goes_one role octets told old v tellings.gone gone standings.Closed out written b quiet_gone
    is tt refl in (
      opened v.owed ++ tellings.gone ∷ [],
      g,
      one_handed v.owed tellings.gone,
      is_last told v.owed tellings.gone (told_one tellings.gone standings.Closed (answered v))
          (known_setup role octets told v tellings.gone standings.Closed g.stands),
    )

answers_heard : (role : Role) (octets : List ℕ) (told : List Arrival) (old v : Course)
    (out written : List ℕ) (came : Came) (h : Heard) (results : List ℕ) (place : ℕ) (os : List ℕ)
    → Before role octets told old v out written → v.held ≡ Some (tsdu place os)
    → (message (expecting_by v.known v.setup.acse v.setup.mms) os).says h
    → IsNextAnswer role octets told old out (told_answer came (saids.Heard h results))
    (told_with came (saids.Heard h results) (answered v)) written
answers_heard role octets told old v out written came h results place os b is says =
    let P : Expecting → Type 0 = λ e. (message e os).says h in
    let s = standing_with v.standing (heard h) in
    let g = goes_one role octets told old v (heard h) (tsdu place os) s out written b (quiet_heard h) is
    (subst P (expected role octets told old v out written b) says) refl in (
      opened v.owed ++ heard h ∷ [],
      g,
      one_handed v.owed (heard h),
      is_last told v.owed (heard h) (told_one (heard h) s (answered v))
          (known_setup role octets told v (heard h) s g.stands),
    )

answers_broken : (role : Role) (octets : List ℕ) (told : List Arrival) (old v : Course)
    (out written : List ℕ) (came : Came) (f : StackFault) (place : ℕ) (os : List ℕ)
    → Before role octets told old v out written → v.held ≡ Some (tsdu place os)
    → (message (expecting_by v.known v.setup.acse v.setup.mms) os).breaks f
    → IsNextAnswer role octets told old out (told_answer came (saids.Broken f))
    (told_with came (saids.Broken f) (answered v)) written
answers_broken role octets told old v out written came f place os b is breaks =
    let P : Expecting → Type 0 = λ e. (message e os).breaks f in
    let g = goes_opened role octets told old v out written b in
    let stops = broken_stops role octets (told ++ opened v.owed) v (tsdu place os) f b.clear g.stands
    is (subst P (expected role octets told old v out written b) breaks) in (
      opened v.owed,
      record {
        stands = stopped_stands role octets (told ++ opened v.owed) v None f g.stands stops;
        standing = g.standing;
        answered = g.answered;
      },
      nothing_handed v.owed,
      stops,
    )

-- nothing is left
held_none : (ms : List Message) (owed : Option Opening) (held : Option Message) → held ≡ None
    → ms ++ (opening_listed owed ++ next_listed held) ≡ ms ++ opening_listed owed
held_none ms owed None e = ap (λ (xs : List Message). ms ++ xs) (append-nil (opening_listed owed))
held_none ms owed (Some m) e = absurd cc

none_held : (o : Option Message) → o ≡ None → IsSome o → ⊥
none_held None e s = absurd cc
none_held (Some m) e s = absurd cc

settled_clear : (v : Course) → v.fault ≡ None → lines.IsLineSettled v.line → IsCourseSettled v
settled_clear v none s = subst (λ (o : Option StackFault). MatchOption o (lines.IsLineSettled v.line)
    (λ f. Unit {0})) (sym none) s

left_open : (role : Role) (octets : List ℕ) (told later : List Arrival) (old new : Course)
    → is_offered old.standing ≡ false
    → ((rest : List ℕ) × Tells role octets (told ++ later) rest) × IsCourseSettled new
    → NothingLeft role octets told later old new
left_open role octets told later old new free left = subst (λ (x : Bool). MatchBool x (later ≡ [])
    (((rest : List ℕ) × Tells role octets (told ++ later) rest) × IsCourseSettled new)) (sym free) left

answers_nothing : (role : Role) (octets : List ℕ) (told : List Arrival) (old v : Course)
    (out written : List ℕ) (came : Came) → Before role octets told old v out written
    → v.held ≡ None → LeavesOff role octets told came v → IsNextTaken came v
    → IsNextAnswer role octets told old out (told_answer came saids.Nothing)
    (told_with came saids.Nothing (answered v)) written
answers_nothing role octets told old v out written cames.Message b is leaves there =
    absurd (none_held v.held is there)
answers_nothing role octets told old v out written cames.Nothing b is l there =
    let P : List Message → Type 0 = λ ms. streams.Says (end_of role) octets ms l.rest in (
      opened v.owed,
      goes_opened role octets told old v out written b,
      nothing_handed v.owed,
      left_open role octets told (opened v.owed) old (answered v) b.free (
        (
          l.rest,
          record {
            messages = l.messages ++ opening_listed v.owed;
            said = subst P (held_none l.messages v.owed v.held is) l.says;
            tell = tell_opened role told l.messages v.owed l.tell;
          },
        ),
        settled_clear (answered v) b.clear l.settled,
      ),
    )
answers_nothing role octets told old v out written (cames.Fault f) b is l there =
    let P : List Message → Type 0 = λ ms. streams.Stops (end_of role) octets ms l.broken in
    let g = goes_opened role octets told old v out written b in
    let stops : StopsTelling role octets (told ++ opened v.owed) f = inl (record {
      messages = l.messages ++ opening_listed v.owed;
      broken = l.broken;
      stops = subst P (held_none l.messages v.owed v.held is) l.stops;
      tell = tell_opened role told l.messages v.owed l.tell;
      is = l.is;
    }) in (
      opened v.owed,
      record {
        stands = stopped_stands role octets (told ++ opened v.owed) v v.held f g.stands stops;
        standing = g.standing;
        answered = g.answered;
      },
      nothing_handed v.owed,
      stops,
    )

no_nothing : (e : Expecting) (m : Message) → SaysMessage e (Some m) saids.Nothing → ⊥
no_nothing e (asks r) s = s
no_nothing e (confirms c) s = s
no_nothing e gone s = s
no_nothing e (tsdu place os) s = s

-- by what is held, and what it says
by_held : (role : Role) (octets : List ℕ) (told : List Arrival) (old v : Course)
    (out written : List ℕ) (came : Came) (said : Said) (held : Option Message)
    → Before role octets told old v out written → v.held ≡ held
    → LeavesOff role octets told came v → IsNextTaken came v
    → SaysMessage (expecting_by v.known v.setup.acse v.setup.mms) held said
    → IsNextAnswer role octets told old out (told_answer came said) (told_with came said (answered v))
    written
by_held role octets told old v out written came saids.Nothing None b is leaves there says =
    answers_nothing role octets told old v out written came b is leaves there
by_held role octets told old v out written came saids.Gone None b is leaves there says = absurd says
by_held role octets told old v out written came (saids.Heard h results) None b is leaves there says =
    absurd says
by_held role octets told old v out written came (saids.Broken f) None b is leaves there says =
    absurd says
by_held role octets told old v out written came saids.Gone (Some gone) b is leaves there says =
    answers_gone role octets told old v out written came b is
by_held role octets told old v out written came saids.Nothing (Some m) b is leaves there says =
    absurd (no_nothing (expecting_by v.known v.setup.acse v.setup.mms) m says)
by_held role octets told old v out written came saids.Gone (Some (asks r)) b is leaves there says =
    absurd says
by_held role octets told old v out written came saids.Gone (Some (confirms c)) b is leaves there says =
    absurd says
by_held role octets told old v out written came saids.Gone (Some (tsdu place os)) b is leaves there
    says = absurd says
by_held role octets told old v out written came (saids.Heard h results) (Some (asks r)) b is leaves
    there says = absurd says
by_held role octets told old v out written came (saids.Heard h results) (Some (confirms c)) b is
    leaves there says = absurd says
by_held role octets told old v out written came (saids.Heard h results) (Some gone) b is leaves there
    says = absurd says
by_held role octets told old v out written came (saids.Heard h results) (Some (tsdu place os)) b is
    leaves there says =
    answers_heard role octets told old v out written came h results place os b is says
by_held role octets told old v out written came (saids.Broken f) (Some (asks r)) b is leaves there
    says = absurd says
by_held role octets told old v out written came (saids.Broken f) (Some (confirms c)) b is leaves
    there says = absurd says
by_held role octets told old v out written came (saids.Broken f) (Some gone) b is leaves there says =
    absurd says
by_held role octets told old v out written came (saids.Broken f) (Some (tsdu place os)) b is leaves
    there says = answers_broken role octets told old v out written came f place os b is says

pub next_right : (role : Role) (octets : List ℕ) (told : List Arrival) (old v : Course)
    (out written : List ℕ) (came : Came) (said : Said) → v.fault ≡ None → v.standing ≡ old.standing
    → is_offered old.standing ≡ false → TakesNext role octets told came v
    → written ≡ out ++ owed_octets v.known.side v.owed v.setup.size v.title
    → SaysMessage (expecting_by v.known v.setup.acse v.setup.mms) v.held said
    → IsNextAnswer role octets told old out (told_answer came said) (told_with came said (answered v))
    written
next_right role octets told old v out written came said clear stood free takes wrote says =
    by_held role octets told old v out written came said v.held
    (record {
      clear = clear;
      stands = takes.stands;
      standing = stood;
      free = free;
      answered = wrote;
    }) refl takes.leaves takes.there says

-- ---- nothing more is taken

goes_nowhere : (role : Role) (octets : List ℕ) (told : List Arrival) (v : Course) (out : List ℕ)
    → CourseStands role octets told v → GoesFurther role octets told [] v out v out
goes_nowhere role octets told v out s =
    let P : List Arrival → Type 0 = λ ts. CourseStands role octets ts v in
    record {
      stands = subst P (sym (append-nil told)) s;
      standing = refl;
      answered = sym (append-nil out);
    }

-- the same fault again
pub answers_again : (role : Role) (octets : List ℕ) (told : List Arrival) (v : Course)
    (out : List ℕ) (f : StackFault) → v.fault ≡ Some f → CourseStands role octets told v
    → IsNextAnswer role octets told v out (Err f) v out
answers_again role octets told v out f some s =
    let stops : StopsTelling role octets told f = subst (λ (o : Option StackFault). MatchOption o
    (ReadsMessages role octets told v) (λ g. StopsTelling role octets told g)) some s.reads in
    let P : List Arrival → Type 0 = λ ts. StopsTelling role octets ts f in
    ([], goes_nowhere role octets told v out s, refl, subst P (sym (append-nil told)) stops)

abbrev nothing_later : List Arrival
nothing_later = []

-- an offer stands unanswered
pub answers_offered : (role : Role) (octets : List ℕ) (told : List Arrival) (v : Course)
    (out : List ℕ) → is_offered v.standing ≡ true → CourseStands role octets told v
    → IsNextAnswer role octets told v out (Ok None) v out
answers_offered role octets told v out offered s = (
  [],
  goes_nowhere role octets told v out s,
  refl,
  subst (λ (x : Bool). MatchBool x (nothing_later ≡ [])
      (((rest : List ℕ) × Tells role octets (told ++ []) rest) × IsCourseSettled v)) (sym offered) refl,
)
