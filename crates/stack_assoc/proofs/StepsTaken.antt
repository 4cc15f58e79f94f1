-- An end that takes a message of its transport stands where it stood.
use Rattle.std.proofs.Common.{◌≡◌, ℕ, List, [], ◌∷◌, ◌++◌, Option, Some, None, MatchOption, refl, sym}
use Rattle.std.proofs.Common.{ap, subst, ◌∙◌, append_assoc, inl, inr, IsSome, arith}
use Rattle.std.proofs.lemmas.List.{append-nil}
use Rattle.tpkt_cotp.specs.Streams.{Message}
use Rattle.tpkt_cotp.specs.Streams as streams
use Rattle.tpkt_cotp.specs.Lines as lines
use Rattle.tpkt_cotp.specs.Lines.{Line}
use Rattle.tpkt_cotp.specs.declared.fault.CotpFault.{CotpFault}
use Rattle.stack_assoc.specs.declared.messages.fault.StackFault.{StackFault}
use Rattle.stack_assoc.specs.declared.wire.setup.AssociationSetup.{AssociationSetup}
use Rattle.stack_assoc.specs.declared.milestones.Milestones.{Milestones}
use Rattle.stack_assoc.specs.declared.taken.Opening.{Opening}
use Rattle.stack_assoc.specs.declared.taken.Came.{Came}
use Rattle.stack_assoc.specs.declared.taken.Came.TheVariants as cames
use Rattle.stack_assoc.specs.Arrivals.{Arrival, Role, end_of}
use Rattle.stack_assoc.specs.Expectations.{setup_after}
use Rattle.stack_assoc.specs.Tellings.{Tell, StopsTelling, transport_fault}
use Rattle.stack_assoc.specs.Knowing.{Knows}
use Rattle.stack_assoc.specs.Taking.{opening_seen, opening_told, opened, opening_listed}
use Rattle.stack_assoc.specs.declared.end_state.EndState.{EndState}
use Rattle.stack_assoc.specs.Courses.{Course, next_listed, messages_taken, ReadsMessages, CourseStands, stack_state_of, state_with}
use Rattle.stack_assoc.specs.Steps.{opened_with, TakesOne, TakesNext, IsTaken, IsBegun, Untold}
use Rattle.stack_assoc.specs.Steps.{FewerLeft, IsEmpty}
use Rattle.stack_assoc.proofs.FrontsKept.{stands_front}
use Rattle.stack_assoc.proofs.Openings.{nothing_before}
use Rattle.stack_assoc.proofs.KnowingMore.{knows_more, setup_more}

-- without a fault
pub reads_of : (role : Role) (octets : List ℕ) (told : List Arrival) (v : Course) → v.fault ≡ None
    → CourseStands role octets told v → ReadsMessages role octets told v
reads_of role octets told v none s = subst (λ (o : Option StackFault). MatchOption o
    (ReadsMessages role octets told v) (λ f. StopsTelling role octets told f)) none s.reads

pub matched_none : (role : Role) (octets : List ℕ) (told : List Arrival) (v : Course) → v.fault ≡ None
    → ReadsMessages role octets told v → MatchOption v.fault (ReadsMessages role octets told v)
    (λ f. StopsTelling role octets told f)
matched_none role octets told v none r = subst (λ (o : Option StackFault). MatchOption o
    (ReadsMessages role octets told v) (λ f. StopsTelling role octets told f)) (sym none) r

pub matched_some : (role : Role) (octets : List ℕ) (told : List Arrival) (v : Course) (f : StackFault)
    → v.fault ≡ Some f → StopsTelling role octets told f → MatchOption v.fault
    (ReadsMessages role octets told v) (λ f. StopsTelling role octets told f)
matched_some role octets told v f some s = subst (λ (o : Option StackFault). MatchOption o
    (ReadsMessages role octets told v) (λ f. StopsTelling role octets told f)) (sym some) s

nothing_either : (xs ys : List Message) → xs ++ ys ≡ [] → (xs ≡ []) × (ys ≡ [])
nothing_either [] ys e = (refl, e)
nothing_either (x ∷ xs) ys e = absurd cc

none_listed : (owed : Option Opening) → opening_listed owed ≡ [] → owed ≡ None
none_listed None e = refl
none_listed (Some o) e = absurd cc

-- the opening is the first message
pub opening_alone : (role : Role) (octets : List ℕ) (ms : List Message) (owed : Option Opening)
    (held : Option Message) (o : Opening) (line : Line)
    → lines.Stands (end_of role) octets ((ms ++ (opening_listed owed ++ next_listed held))
    ++ opening_seen o ∷ []) line → (ms ≡ []) × (owed ≡ None)
opening_alone role octets ms owed held o line s =
    let none = nothing_before (end_of role) octets (ms ++ (opening_listed owed ++ next_listed held)) o
    (stands_front (end_of role) octets ((ms ++ (opening_listed owed ++ next_listed held))
    ++ opening_seen o ∷ []) line s) in
    let parts = nothing_either ms (opening_listed owed ++ next_listed held) none in
    let inner = nothing_either (opening_listed owed) (next_listed held) parts.1 in
    (parts.0, none_listed owed inner.0)

opening_placed : (ms : List Message) (owed : Option Opening) (held : Option Message) (o : Opening)
    → owed ≡ None → held ≡ None → (ms ++ (opening_listed owed ++ next_listed held)) ++ opening_seen o ∷ []
    ≡ ms ++ (opening_listed (Some o) ++ next_listed held)
opening_placed ms None None o a b = ap (λ (xs : List Message). xs ++ opening_seen o ∷ []) (append-nil ms)
opening_placed ms None (Some m) o a b = absurd cc
opening_placed ms (Some p) held o a b = absurd cc

following_placed : (ms : List Message) (owed : Option Opening) (held : Option Message) (m : Message)
    → held ≡ None → (ms ++ (opening_listed owed ++ next_listed held)) ++ m ∷ []
    ≡ ms ++ (opening_listed owed ++ next_listed (Some m))
following_placed ms owed None m a = append_assoc ms (opening_listed owed ++ []) (m ∷ [])
    ∙ ap (λ (xs : List Message). ms ++ (xs ++ m ∷ [])) (append-nil (opening_listed owed))
following_placed ms owed (Some n) m a = absurd cc

pub known_alone : (role : Role) (told : List Arrival) (owed : Option Opening) (k : Milestones) → owed ≡ None
    → Knows role (told ++ opened owed) k → Knows role told k
known_alone role told None k e s =
    let P : List Arrival → Type 0 = λ ts. Knows role ts k in subst P (append-nil told) s
known_alone role told (Some o) k e s = absurd cc

pub setup_alone : (told : List Arrival) (owed : Option Opening) (s : AssociationSetup) → owed ≡ None
    → s ≡ setup_after (told ++ opened owed) → s ≡ setup_after told
setup_alone told None s e is = is ∙ ap setup_after (append-nil told)
setup_alone told (Some o) s e is = absurd cc

-- an opening was taken
pub takes_opening : (role : Role) (octets : List ℕ) (told : List Arrival) (old new : Course)
    (o : Opening) (line : Line) → CourseStands role octets told old → old.fault ≡ None → old.held ≡ None
    → ((given : List Message) → lines.Stands (end_of role) octets given old.line
    → lines.Stands (end_of role) octets (given ++ opening_seen o ∷ []) line)
    → new ≡ opened_with o (record old { line = line }) → TakesOne role octets told old cames.Message new
takes_opening role octets told old new o line s none free next is =
    let P : Course → Type 0 = λ v. TakesOne role octets told old cames.Message v in
    let v : Course = opened_with o (record old { line = line }) in
    let r = reads_of role octets told old none s in
    let stands = next (r.messages ++ messages_taken old) r.stands in
    let alone = opening_alone role octets r.messages old.owed old.held o line stands in
    let k : Knows role told old.known = known_alone role told old.owed old.known alone.1 s.knows in
    let Q : List Message → Type 0 = λ ms. lines.Stands (end_of role) octets ms line in
    let reads : ReadsMessages role octets told v = record {
      messages = r.messages;
      tell = r.tell;
      stands = subst Q (opening_placed r.messages old.owed old.held o alone.1 free) stands;
    } in
    subst P (sym is) (record {
      stands = record {
        title = s.title;
        knows = knows_more role told old.known (opening_told o) k;
        since = s.since;
        setup = setup_more role told old.known old.setup (opening_told o) k
            (setup_alone told old.owed old.setup alone.1 s.setup);
        reads = matched_none role octets told v none reads;
      };
      leaves = tt;
      taken = inr (alone.1, refl);
    })

-- a message to be read was taken
pub takes_following : (role : Role) (octets : List ℕ) (told : List Arrival) (old new : Course)
    (m : Message) (line : Line) → CourseStands role octets told old → old.fault ≡ None → old.held ≡ None
    → ((given : List Message) → lines.Stands (end_of role) octets given old.line
    → lines.Stands (end_of role) octets (given ++ m ∷ []) line)
    → new ≡ record old { line = line; held = Some m } → TakesOne role octets told old cames.Message new
takes_following role octets told old new m line s none free next is =
    let P : Course → Type 0 = λ v. TakesOne role octets told old cames.Message v in
    let v : Course = record old { line = line; held = Some m } in
    let r = reads_of role octets told old none s in
    let Q : List Message → Type 0 = λ ms. lines.Stands (end_of role) octets ms line in
    let reads : ReadsMessages role octets told v = record {
      messages = r.messages;
      tell = r.tell;
      stands = subst Q (following_placed r.messages old.owed old.held m free)
          (next (r.messages ++ messages_taken old) r.stands);
    } in
    subst P (sym is) (record {
      stands = record {
        title = s.title;
        knows = s.knows;
        since = s.since;
        setup = s.setup;
        reads = matched_none role octets told v none reads;
      };
      leaves = tt;
      taken = inl refl;
    })

-- no message was taken
stands_line : (role : Role) (octets : List ℕ) (told : List Arrival) (old : Course) (line : Line)
    → (s : CourseStands role octets told old) → old.fault ≡ None → (ms : List Message)
    → Tell role told ms → lines.Stands (end_of role) octets (ms ++ messages_taken old) line
    → CourseStands role octets told (record old { line = line })
stands_line role octets told old line s none ms tell stands = record {
  title = s.title;
  knows = s.knows;
  since = s.since;
  setup = s.setup;
  reads = let v : Course = record old { line = line } in
      matched_none role octets told v none
      (record { messages = ms; tell = tell; stands = stands });
}

pub takes_nothing : (role : Role) (octets : List ℕ) (told : List Arrival) (old new : Course)
    (line : Line) → CourseStands role octets told old → old.fault ≡ None
    → ((given : List Message) → lines.Stands (end_of role) octets given old.line
    → lines.Stands (end_of role) octets given line
    × ((rest : List ℕ) × streams.Says (end_of role) octets given rest) × lines.IsLineSettled line)
    → new ≡ record old { line = line } → TakesOne role octets told old cames.Nothing new
takes_nothing role octets told old new line s none next is =
    let P : Course → Type 0 = λ v. TakesOne role octets told old cames.Nothing v in
    let r = reads_of role octets told old none s in
    let n = next (r.messages ++ messages_taken old) r.stands in
    subst P (sym is) (record {
      stands = stands_line role octets told old line s none r.messages r.tell n.0;
      leaves = record {
        messages = r.messages;
        rest = n.1.0;
        tell = r.tell;
        says = n.1.1;
        settled = n.2;
      };
      taken = tt;
    })

pub takes_fault : (role : Role) (octets : List ℕ) (told : List Arrival) (old new : Course)
    (line : Line) (broken : CotpFault) (f : StackFault) → CourseStands role octets told old
    → old.fault ≡ None → f ≡ transport_fault broken
    → ((given : List Message) → lines.Stands (end_of role) octets given old.line
    → lines.Stands (end_of role) octets given line
    × streams.Stops (end_of role) octets given broken × lines.IsLineSettled line)
    → new ≡ record old { line = line } → TakesOne role octets told old (cames.Fault f) new
takes_fault role octets told old new line broken f s none fault next is =
    let P : Course → Type 0 = λ v. TakesOne role octets told old (cames.Fault f) v in
    let r = reads_of role octets told old none s in
    let n = next (r.messages ++ messages_taken old) r.stands in
    subst P (sym is) (record {
      stands = stands_line role octets told old line s none r.messages r.tell n.0;
      leaves = record {
        messages = r.messages;
        broken = broken;
        tell = r.tell;
        stops = n.1;
        is = fault;
      };
      taken = tt;
    })

-- ---- one message, or two

some_held : (o : Option Message) → o ≡ None → IsSome o → ⊥
some_held None e s = absurd cc
some_held (Some m) e s = absurd cc

some_owed : (o : Option Opening) → o ≡ None → IsSome o → ⊥
some_owed None e s = absurd cc
some_owed (Some p) e s = absurd cc

-- behind an opening comes a message to be read
pub there_behind : (mid new : Course) → IsSome mid.owed → IsTaken mid cames.Message new
    → IsSome new.held
there_behind mid new some (inl held) = held
there_behind mid new some (inr opening) = absurd (some_owed mid.owed opening.0 some)

pub owed_first : (old mid : Course) → mid.held ≡ None → IsTaken old cames.Message mid
    → IsSome mid.owed
owed_first old mid none (inl held) = absurd (some_held mid.held none held)
owed_first old mid none (inr opening) = opening.1

pub begun : (old mid : Course) → IsTaken old cames.Message mid → IsBegun mid
begun old mid (inl held) = inl held
begun old mid (inr opening) = inr opening.1

owed_of : (mid : Course) → mid.held ≡ None → IsBegun mid → IsSome mid.owed
owed_of mid free (inl held) = absurd (some_held mid.held free held)
owed_of mid free (inr owed) = owed

-- behind what has begun comes a message to be read
pub takes_behind : (role : Role) (octets : List ℕ) (told : List Arrival) (mid new : Course)
    (came : Came) → mid.held ≡ None → IsBegun mid → TakesOne role octets told mid came new
    → IsEmpty came new → TakesNext role octets told came new
takes_behind role octets told mid new cames.Message free b t empty = record {
  stands = t.stands;
  leaves = tt;
  there = there_behind mid new (owed_of mid free b) t.taken;
}
takes_behind role octets told mid new cames.Nothing free b t empty =
    record { stands = t.stands; leaves = t.leaves; there = empty }
takes_behind role octets told mid new (cames.Fault f) free b t empty =
    record { stands = t.stands; leaves = t.leaves; there = empty }

-- no message came
pub takes_none : (role : Role) (octets : List ℕ) (told : List Arrival) (old new : Course)
    (came : Came) → (came ≡ cames.Message → ⊥) → TakesOne role octets told old came new
    → IsEmpty came new → TakesNext role octets told came new
takes_none role octets told old new cames.Message none t empty = absurd (none refl)
takes_none role octets told old new cames.Nothing none t empty =
    record { stands = t.stands; leaves = t.leaves; there = empty }
takes_none role octets told old new (cames.Fault f) none t empty =
    record { stands = t.stands; leaves = t.leaves; there = empty }

pub untold_then : (old mid new : Course) → Untold old mid → Untold mid new → Untold old new
untold_then old mid new a b = record {
  title = b.title ∙ a.title;
  side = b.side ∙ a.side;
  standing = b.standing ∙ a.standing;
  fault = b.fault ∙ a.fault;
}

pub fewer_then : (old mid new : Course) (came : Came) → FewerLeft cames.Message old mid
    → FewerLeft came mid new → FewerLeft came old new
fewer_then old mid new cames.Message a b = omega (arith, a, b)
fewer_then old mid new cames.Nothing a b = tt
fewer_then old mid new (cames.Fault f) a b = tt

pub untold_state : (old new : Course) → Untold old new → stack_state_of new ≡ stack_state_of old
untold_state old new u = ap (λ (f : Option StackFault). state_with f new.standing) u.fault
    ∙ ap (λ (s : EndState). state_with old.fault s) u.standing
