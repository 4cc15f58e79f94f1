-- What an end answers is right.
use Rattle.std.proofs.Common.{◌≡◌, ℕ, List, [], ◌∷◌, ◌++◌, Option, Some, None}
use Rattle.std.proofs.Common.{refl, sym, ap, subst, ◌∙◌, append_assoc}
use Rattle.std.proofs.Common.{inr}
use Rattle.std.proofs.lemmas.List.{append-nil}
use Rattle.tpkt_cotp.specs.Streams.{Message}
use Rattle.tpkt_cotp.specs.Lines as lines
use Rattle.tpkt_cotp.specs.Lines.{Line}
use Rattle.tpkt_cotp.specs.Written.{confirm_octets, wire}
use Rattle.stack_assoc.specs.declared.messages.expecting.Side.{Side}
use Rattle.stack_assoc.specs.declared.messages.fault.StackFault.{StackFault}
use Rattle.stack_assoc.specs.Wire.Setups.{cut_size}
use Rattle.stack_assoc.specs.Wire.Tsdus.{connect_tsdu}
use Rattle.stack_assoc.specs.declared.wire.setup.AssociationSetup.{AssociationSetup}
use Rattle.stack_assoc.specs.declared.milestones.Milestones.{Milestones}
use Rattle.stack_assoc.specs.declared.end_state.EndState.{EndState}
use Rattle.stack_assoc.specs.declared.taken.Opening.{Opening}
use Rattle.stack_assoc.specs.declared.taken.Opening.TheVariants as openings
use Rattle.stack_assoc.specs.Fronts.{StartsWith}
use Rattle.stack_assoc.specs.Arrivals.{Arrival, Role, called, calling, side_of, end_of}
use Rattle.stack_assoc.specs.Expectations.{setup_after}
use Rattle.stack_assoc.specs.Tellings.{TellsNext, BreaksNext, Tell, StopsTelling}
use Rattle.stack_assoc.specs.Handing.{answers_to}
use Rattle.stack_assoc.specs.Knowing.{Knows, known_with, setup_with}
use Rattle.stack_assoc.specs.Taking.{opening_seen, opening_told, opened, opening_listed, owed_octets}
use Rattle.stack_assoc.specs.Courses.{Course, next_listed, messages_taken, role_title_of, CourseStands}
use Rattle.stack_assoc.proofs.FrontsKept.{stands_front}
use Rattle.stack_assoc.proofs.KnowingMore.{knows_more, setup_more, since_more}
use Rattle.stack_assoc.proofs.Openings.{nothing_before}
use Rattle.stack_assoc.proofs.StepsTaken.{reads_of, matched_none, known_alone}
use Rattle.stack_assoc.proofs.StepsTaken.{setup_alone}
use Rattle.stack_assoc.proofs.StreamLaws.{front_front}
use Rattle.stack_assoc.proofs.TurnLaws.{spelled_push}

-- ---- the opening is told

opening_tells : (role : Role) (before : List Arrival) (o : Opening)
    → TellsNext role before (opening_told o) (opening_seen o)
opening_tells role before (openings.Request r) = refl
opening_tells role before (openings.Confirm c) = refl

pub tell_opened : (role : Role) (told : List Arrival) (ms : List Message) (owed : Option Opening)
    → Tell role told ms → Tell role (told ++ opened owed) (ms ++ opening_listed owed)
tell_opened role told ms None s =
    let P : List Arrival → Type 0 = λ ts. Tell role ts (ms ++ []) in
    let Q : List Message → Type 0 = λ xs. Tell role told xs in
    subst P (sym (append-nil told)) (subst Q (sym (append-nil ms)) s)
tell_opened role told ms (Some o) s =
    spelled_push (TellsNext role) [] told (opening_told o) ms (opening_seen o) s
    (opening_tells role ([] ++ told) o)

knows_nil : (role : Role) (told : List Arrival) (k : Milestones) → Knows role told k
    → Knows role (told ++ []) k
knows_nil role told k s = let P : List Arrival → Type 0 = λ ts. Knows role ts k in
    subst P (sym (append-nil told)) s

abbrev pub answered : Course → Course
answered v = record v { owed = None }

pub answered_stands : (role : Role) (octets : List ℕ) (told : List Arrival) (v : Course)
    → v.fault ≡ None → CourseStands role octets told v
    → CourseStands role octets (told ++ opened v.owed) (answered v)
answered_stands role octets told v none s =
    let r = reads_of role octets told v none s in
    let P : List Message → Type 0 = λ ms. lines.Stands (end_of role) octets ms v.line in
    record {
      title = s.title;
      knows = knows_nil role (told ++ opened v.owed) v.known s.knows;
      since = since_more role told (opened v.owed) s.since;
      setup = s.setup ∙ ap setup_after (sym (append-nil (told ++ opened v.owed)));
      reads = matched_none role octets (told ++ opened v.owed) (answered v) none (record {
        messages = r.messages ++ opening_listed v.owed;
        tell = tell_opened role told r.messages v.owed r.tell;
        stands = subst P (sym (append_assoc r.messages (opening_listed v.owed) (next_listed v.held)))
            r.stands;
      });
    }

-- ---- and answered

nothing_told : (role : Role) (told : List Arrival) (ms : List Message) → ms ≡ [] → Tell role told ms
    → told ≡ []
nothing_told role [] ms e s = refl
nothing_told role (t ∷ told) [] e s = absurd s
nothing_told role (t ∷ told) (m ∷ ms) e s = absurd cc

abbrev opening_or : Opening → Option Opening → Opening
opening_or p None = p
opening_or p (Some q) = q

abbrev some_opening : Opening → Option Opening
some_opening o = Some o

some_is : (p o : Opening) → some_opening p ≡ some_opening o → p ≡ o
some_is p o e = ap (λ (q : Option Opening). opening_or p q) e

abbrev opening_size : Opening → Option ℕ
opening_size (openings.Request r) = r.parameters.size
opening_size (openings.Confirm c) = c.parameters.size

first_size : (told : List Arrival) (o : Opening) (s : AssociationSetup) → told ≡ []
    → s ≡ setup_after (told ++ opening_told o ∷ []) → s.size ≡ cut_size (opening_size o)
first_size [] (openings.Request r) s e is = ap (λ (x : AssociationSetup). x.size) is
first_size [] (openings.Confirm c) s e is = ap (λ (x : AssociationSetup). x.size) is
first_size (t ∷ told) o s e is = absurd cc

-- before an opening that is owed an answer nothing was told
owed_size : (role : Role) (octets : List ℕ) (told : List Arrival) (ms : List Message)
    (owed : Option Opening) (held : Option Message) (line : Line) (s : AssociationSetup) (o : Opening)
    → owed ≡ Some o → Tell role told ms
    → lines.Stands (end_of role) octets (ms ++ (opening_listed owed ++ next_listed held)) line
    → s ≡ setup_after (told ++ opened owed) → s.size ≡ cut_size (opening_size o)
owed_size role octets told ms None held line s o e tell stands is = absurd cc
owed_size role octets told ms (Some p) held line s o e tell stands is =
    let P : List Message → Type 0 = λ xs. StartsWith (end_of role) octets xs in
    let starts = stands_front (end_of role) octets (ms ++ (opening_listed (Some p) ++ next_listed held))
    line stands in
    let front = front_front (end_of role) octets (ms ++ opening_seen p ∷ []) (next_listed held)
    (subst P (sym (append_assoc ms (opening_seen p ∷ []) (next_listed held))) starts) in
    let none = nothing_told role told ms (nothing_before (end_of role) octets ms p front) tell in
    let same : p ≡ o = some_is p o e in
    first_size told p s none is ∙ ap (λ (q : Opening). cut_size (opening_size q)) same

answers_by : (role : Role) (owed : Option Opening) (side : Side) (size : ℕ)
    (title : Option (List ℕ)) → side ≡ side_of role → title ≡ role_title_of role
    → ((o : Opening) → owed ≡ Some o → size ≡ cut_size (opening_size o))
    → owed_octets side owed size title ≡ answers_to role (opened owed)
answers_by called None side size title e t sized =
    ap (λ (x : Side). owed_octets x None size title) e
answers_by called (Some (openings.Request r)) side size title e t sized =
    ap (λ (x : Side). owed_octets x (Some (openings.Request r)) size title) e
    ∙ sym (append-nil (confirm_octets r))
answers_by called (Some (openings.Confirm c)) side size title e t sized =
    ap (λ (x : Side). owed_octets x (Some (openings.Confirm c)) size title) e
answers_by (calling own said) None side size title e t sized =
    ap (λ (x : Side). owed_octets x None size title) e
answers_by (calling own said) (Some (openings.Request r)) side size title e t sized =
    ap (λ (x : Side). owed_octets x (Some (openings.Request r)) size title) e
answers_by (calling own said) (Some (openings.Confirm c)) side size title e t sized =
    ap (λ (x : Side). owed_octets x (Some (openings.Confirm c)) size title) e
    ∙ ap (λ (x : Option (List ℕ)). wire size (connect_tsdu x)) t
    ∙ ap (λ (n : ℕ). wire n (connect_tsdu own)) (sized (openings.Confirm c) refl)
    ∙ sym (append-nil (wire (cut_size c.parameters.size) (connect_tsdu own)))

pub answers_owed : (role : Role) (octets : List ℕ) (told : List Arrival) (v : Course)
    → v.fault ≡ None → CourseStands role octets told v
    → owed_octets v.known.side v.owed v.setup.size v.title ≡ answers_to role (opened v.owed)
answers_owed role octets told v none s =
    let r = reads_of role octets told v none s in
    answers_by role v.owed v.known.side v.setup.size v.title s.knows.side s.title
    (λ o e. owed_size role octets told r.messages v.owed v.held v.line v.setup o e r.tell r.stands
    s.setup)

-- ---- a message is told

abbrev message_or : Message → Option Message → Message
message_or m None = m
message_or m (Some n) = n

abbrev some_of : Message → Option Message
some_of m = Some m

some_message : (m n : Message) → some_of m ≡ some_of n → m ≡ n
some_message m n e = ap (λ (o : Option Message). message_or m o) e

message_placed : (ms : List Message) (held : Option Message) (m : Message) → held ≡ Some m
    → ms ++ next_listed held ≡ (ms ++ m ∷ []) ++ []
message_placed ms None m e = absurd cc
message_placed ms (Some n) m e = ap (λ (x : Message). ms ++ x ∷ []) (some_message n m e)
    ∙ sym (append-nil (ms ++ m ∷ []))

-- with this message told
abbrev pub told_one : Arrival → EndState → Course → Course
told_one t standing v = record v {
  held = None;
  known = known_with v.known t;
  setup = setup_with v.known v.setup t;
  standing = standing;
}

pub told_stands : (role : Role) (octets : List ℕ) (told : List Arrival) (v : Course) (t : Arrival)
    (m : Message) (standing : EndState) → v.fault ≡ None → CourseStands role octets told (answered v)
    → v.held ≡ Some m → TellsNext role told t m
    → CourseStands role octets (told ++ t ∷ []) (told_one t standing (answered v))
told_stands role octets told v t m standing none s is tells =
    let w = told_one t standing (answered v) in
    let r = reads_of role octets told (answered v) none s in
    let k = known_alone role told None v.known refl s.knows in
    let P : List Message → Type 0 = λ ms. lines.Stands (end_of role) octets ms v.line in
    record {
      title = s.title;
      knows = knows_nil role (told ++ t ∷ []) (known_with v.known t)
          (knows_more role told v.known t k);
      since = since_more role told (t ∷ []) s.since;
      setup = setup_more role told v.known v.setup t k (setup_alone told None v.setup refl s.setup)
          ∙ ap setup_after (sym (append-nil (told ++ t ∷ [])));
      reads = matched_none role octets (told ++ t ∷ []) w none (record {
        messages = r.messages ++ m ∷ [];
        tell = spelled_push (TellsNext role) [] told t r.messages m r.tell tells;
        stands = subst P (message_placed r.messages v.held m is) r.stands;
      });
    }

-- a message that breaks a rule
pub broken_stops : (role : Role) (octets : List ℕ) (told : List Arrival) (v : Course) (m : Message)
    (f : StackFault) → v.fault ≡ None → CourseStands role octets told (answered v) → v.held ≡ Some m
    → BreaksNext role told m f → StopsTelling role octets told f
broken_stops role octets told v m f none s is breaks =
    let r = reads_of role octets told (answered v) none s in
    let P : List Message → Type 0 = λ ms. StartsWith (end_of role) octets ms in
    inr (record {
      messages = r.messages;
      next = m;
      starts = subst P (message_placed r.messages v.held m is
          ∙ append-nil (r.messages ++ m ∷ []))
          (stands_front (end_of role) octets (r.messages ++ messages_taken (answered v)) v.line r.stands);
      tell = r.tell;
      breaks = breaks;
    })

-- with a rule broken
pub stopped_stands : (role : Role) (octets : List ℕ) (told : List Arrival) (v : Course)
    (held : Option Message) (f : StackFault) → CourseStands role octets told (answered v)
    → StopsTelling role octets told f
    → CourseStands role octets told (record (answered v) { held = held; fault = Some f })
stopped_stands role octets told v held f s stops = record {
  title = s.title;
  knows = s.knows;
  since = s.since;
  setup = s.setup;
  reads = stops;
}
