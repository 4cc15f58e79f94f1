-- What was told of a text, however far it was read: it is the front of all that the text tells,
-- each message comes in its turn and is lawful, and what a connect fixes stays so.
use Rattle.std.proofs.Common.{◌≡◌, ℕ, ◌≤◌, ◌+◌, true, false, List, [], ◌∷◌, ◌++◌, length}
use Rattle.std.proofs.Common.{Option, Some, None, refl, sym, ap, subst, ◌∙◌, append_assoc}
use Rattle.std.proofs.Common.{inl, inr, arith, MatchOption}
use Rattle.std.specs.Prelude.{is_some}
use Rattle.std.specs.List.{All}
use Rattle.std.proofs.lemmas.Bool.{false≢true}
use Rattle.std.proofs.lemmas.Option.{same_Some}
use Rattle.std.proofs.lemmas.List.{append-nil}
use Rattle.std.proofs.lemmas.List.Elements.{All-head, All-drop}
use Rattle.std.proofs.lemmas.Grind.{flat_map-append}
use Rattle.std.proofs.Math.Seq.{drop-append_seam}
use Rattle.tpkt_cotp.specs.declared.tpdu.ConnectRequest.{ConnectRequest}
use Rattle.tpkt_cotp.specs.declared.turn.Role.TheVariants as ends
use Rattle.tpkt_cotp.specs.declared.turn.Turn.{Turn}
use Rattle.tpkt_cotp.specs.declared.turn.Turn.TheVariants as turns
use Rattle.tpkt_cotp.specs.Turns.{may_come}
use Rattle.tpkt_cotp.specs.Tpdus.{Tpdu, request, confirm, disconnect, part, kind}
use Rattle.tpkt_cotp.specs.Streams.{Message, asks, confirms, tsdu, held_of, Opens, IsRest}
use Rattle.tpkt_cotp.specs.Streams as transports
use Rattle.tpkt_cotp.specs.Streams.{turn_after, message_of}
use Rattle.tpkt_cotp.specs.Streams.{SpellsMessage, SpellsMessages, Says}
use Rattle.tpkt_cotp.proofs.LineLemmas.{nothing_read}
use Rattle.tpkt_cotp.proofs.OneReading.{rest_from}
use Rattle.stack_assoc.specs.declared.messages.fault.StackFault.{StackFault}
use Rattle.stack_assoc.proofs.OfMessages.OneMessage.{one_message}
use Rattle.stack_assoc.specs.Arrivals.{Arrival, asked, confirmed, gone, heard, called, or_else, first_in}
use Rattle.stack_assoc.specs.Arrivals.{size_in, connect_in}
use Rattle.stack_assoc.specs.Fronts.{StartsWith}
use Rattle.stack_assoc.specs.InTurn.{SpellInTurn}
use Rattle.stack_assoc.specs.Handing.{answer_to, answers_to}
use Rattle.stack_assoc.specs.Expectations.{setup_by, size_by, setup_after}
use Rattle.stack_assoc.specs.Tellings.{TellsNext, Tell, Tells, StopsTelling}
use Rattle.stack_assoc.specs.Taking.{opened}
use Rattle.stack_assoc.specs.Courses.{Course, messages_taken, CourseStands}
use Rattle.stack_assoc.specs.Courses as courses
use Rattle.stack_assoc.proofs.FrontsKept.{front_more, said_front, stopped_front, stands_front}
use Rattle.stack_assoc.proofs.StreamLaws.{front_front, GoesOn, told_stays, stopped_stays}
use Rattle.tase_conn.specs.Map.LawfulTold.{IsLawfulTold}
use Rattle.tase_conn.specs.Map.Readings.{reading_of, TellsReading}
use Rattle.tase_conn.proofs.OfMap.ReadingLaws.{reading_found}
use Rattle.tase_conn.proofs.OfMap.MessageOrder.{Comes, AllCome, told_come}
use Rattle.tase_conn.proofs.OfMap.LawfulMessages.{told_lawful}

-- ---- the messages that were told

-- octets begin with messages that tell these
pub record HasFront (octets : List ℕ) (told : List Arrival) : Type 0 where
  pub messages : List Message
  pub starts : StartsWith ends.Called octets messages
  pub tell : Tell called told messages

front_by : (octets : List ℕ) (told : List Arrival) (v : Course) (fault : Option StackFault)
    → MatchOption fault (courses.ReadsMessages called octets told v) (λ f. StopsTelling called octets told f)
    → HasFront octets told
front_by octets told v None r = record {
  messages = r.messages;
  starts = front_front ends.Called octets r.messages (messages_taken v)
      (stands_front ends.Called octets (r.messages ++ messages_taken v) v.line r.stands);
  tell = r.tell;
}
front_by octets told v (Some fault) (inl s) = record {
  messages = s.messages;
  starts = stopped_front ends.Called octets s.messages s.broken s.stops;
  tell = s.tell;
}
front_by octets told v (Some fault) (inr s) = record {
  messages = s.messages;
  starts = front_front ends.Called octets s.messages (s.next ∷ []) s.starts;
  tell = s.tell;
}

-- what was told is told by messages that the octets begin with
pub has_front : (octets : List ℕ) (told : List Arrival) (v : Course) → CourseStands called octets told v
    → HasFront octets told
has_front octets told v s = front_by octets told v v.fault s.reads

read_by : (octets : List ℕ) (told : List Arrival) (broken : Option StackFault)
    → TellsReading octets told broken → HasFront octets told
read_by octets told None r = record {
  messages = r.1.messages;
  starts = said_front ends.Called octets r.0 r.1.messages r.1.said;
  tell = r.1.tell;
}
read_by octets told (Some fault) (inl s) = record {
  messages = s.messages;
  starts = stopped_front ends.Called octets s.messages s.broken s.stops;
  tell = s.tell;
}
read_by octets told (Some fault) (inr s) = record {
  messages = s.messages;
  starts = front_front ends.Called octets s.messages (s.next ∷ []) s.starts;
  tell = s.tell;
}

-- so is all that is read
pub whole_front : (octets : List ℕ) → HasFront octets (reading_of octets).told
whole_front octets =
    let r = reading_of octets in read_by octets r.told r.broken (reading_found octets)

-- also with more octets behind it
pub read_front : (octets more : List ℕ) → HasFront (octets ++ more) (reading_of octets).told
read_front octets more =
    let f = whole_front octets in
    record {
      messages = f.messages;
      starts = front_more ends.Called octets more f.messages f.starts;
      tell = f.tell;
    }

-- ---- the front of what is read

nothing_opened : (turn : Turn) → Opens turn [] [] []
nothing_opened turn = record {
  each = tt;
  order = λ none. absurd (omega arith);
  within = omega arith;
  is = refl;
}

nothing_left : (turn : Turn) (at : ℕ) → IsRest turn at []
nothing_left turn at = rest_from turn at [] [] [] (nothing_opened turn) (nothing_read turn 0)

-- the octets of messages say these, and leave nothing
whole_said : (octets : List ℕ) (messages : List Message)
    → (s : StartsWith ends.Called octets messages) → Says ends.Called s.whole messages []
whole_said octets messages s = record {
  whole = s.whole;
  is = sym (append-nil s.whole);
  spelled = s.spelled;
  remains = nothing_left (turn_after (turns.Opening ends.Called) messages) (length s.whole);
}

told_more : (text more : List ℕ) (told later : List Arrival) (broken : Option StackFault)
    → Tells called text told [] → TellsReading (text ++ more) later broken → GoesOn told later
told_more text more told later None t r =
    told_stays one_message called text more told later [] r.0 t r.1
told_more text more told later (Some fault) t r =
    stopped_stays one_message called text more told later [] fault t r

pub front_read : (octets : List ℕ) (told : List Arrival) → HasFront octets told
    → GoesOn told (reading_of octets).told
front_read octets told f =
    let text = f.starts.whole ++ f.starts.more in
    subst (λ (os : List ℕ). GoesOn told (reading_of os).told) (sym f.starts.is)
    (told_more f.starts.whole f.starts.more told (reading_of text).told (reading_of text).broken
    (record { messages = f.messages; said = whole_said octets f.messages f.starts; tell = f.tell })
    (reading_found text))

-- all that a text tells begins with what was told of it
pub told_front : (octets : List ℕ) (told : List Arrival) (v : Course) → CourseStands called octets told v
    → (others : List Arrival) × ((reading_of octets).told ≡ told ++ others)
told_front octets told v s = front_read octets told (has_front octets told v s)

-- ---- in its turn, and lawful

come_at : (before front : List Arrival) (t : Arrival) (others : List Arrival)
    → AllCome before (front ++ t ∷ others) → Comes (before ++ front) t
come_at before [] t others a =
    subst (λ (b : List Arrival). Comes b t) (sym (append-nil before)) a.0
come_at before (x ∷ front) t others a =
    subst (λ (b : List Arrival). Comes b t) (append_assoc before (x ∷ []) front)
    (come_at (before ++ x ∷ []) front t others a.1)

-- the message that was told last may come behind those before it
pub last_comes : (octets : List ℕ) (front : List Arrival) (t : Arrival) (v : Course)
    → CourseStands called octets (front ++ t ∷ []) v → Comes front t
last_comes octets front t v s =
    let f = told_front octets (front ++ t ∷ []) v s in
    let r = reading_of octets in
    come_at [] front t f.0
    (subst (λ (told : List Arrival). AllCome [] told) (f.1 ∙ append_assoc front (t ∷ []) f.0)
    (told_come octets r.told r.broken (reading_found octets)))

-- and has lawful parts
pub last_lawful : (octets : List ℕ) (front : List Arrival) (t : Arrival) (v : Course)
    → CourseStands called octets (front ++ t ∷ []) v → IsLawfulTold t
last_lawful octets front t v s =
    let told = front ++ t ∷ [] in
    let f = has_front octets told v s in
    All-head IsLawfulTold t []
    (subst (λ (ts : List Arrival). All IsLawfulTold ts) (drop-append_seam front (t ∷ []))
    (All-drop IsLawfulTold (length front) told (told_lawful called [] told f.messages f.tell)))

-- ---- what a connect fixes

or_kept : {B : Type 0} (o rest more : Option B) → (is_some rest ≡ true → more ≡ rest)
    → is_some (or_else o rest) ≡ true → or_else o more ≡ or_else o rest
or_kept None rest more k e = k e
or_kept (Some x) rest more k e = refl

-- what was found stays the first
pub first_kept : {A B : Type 0} (f : A → Option B) (xs ys : List A)
    → is_some (first_in f xs) ≡ true → first_in f (xs ++ ys) ≡ first_in f xs
first_kept f [] ys e = absurd (false≢true e)
first_kept f (x ∷ xs) ys e =
    or_kept (f x) (first_in f xs) (first_in f (xs ++ ys)) (first_kept f xs ys) e

-- a connect request of the transport comes first
request_first : (tpdu : Tpdu) (held : List ℕ) (m : Message)
    → may_come (turns.Opening ends.Called) (kind tpdu) ≡ true → message_of 0 held tpdu ≡ Some m
    → (r : ConnectRequest) × (m ≡ asks r)
request_first (request r) held m c e = (r, sym (same_Some (asks r) m e))
request_first (confirm x) held m c e = absurd (false≢true c)
request_first disconnect held m c e = absurd (false≢true c)
request_first (part last more) held m c e = absurd (false≢true c)

message_first : (m : Message) (octets : List ℕ)
    → SpellsMessage (turns.Opening ends.Called) 0 m octets → (r : ConnectRequest) × (m ≡ asks r)
message_first m octets s = request_first s.tpdu (held_of s.sections) m s.comes.order s.ends

size_told : (t : Arrival) (told : List Arrival) (r : ConnectRequest) → TellsNext called [] t (asks r)
    → is_some (first_in size_in (t ∷ told)) ≡ true
size_told (asked q) told r s = refl
size_told (confirmed c) told r s = absurd s
size_told gone told r s = absurd s
size_told (heard h) told r s = absurd s

pub size_first : (told : List Arrival) (messages : List Message) (octets : List ℕ)
    → SpellsMessages (turns.Opening ends.Called) 0 messages octets → Tell called told messages
    → is_some (first_in connect_in told) ≡ true → is_some (first_in size_in told) ≡ true
size_first [] messages octets s tell c = absurd (false≢true c)
size_first (t ∷ told) [] octets s tell c = absurd tell
size_first (t ∷ told) (m ∷ messages) octets s tell c =
    let r = message_first m s.0 s.3 in
    size_told t told r.0 (subst (λ (n : Message). TellsNext called [] t n) r.1 tell.0)

pub setup_kept : (told others : List Arrival) → is_some (first_in size_in told) ≡ true
    → is_some (first_in connect_in told) ≡ true → setup_after (told ++ others) ≡ setup_after told
setup_kept told others size connect =
    ap (λ (o : Option (Option ℕ)). setup_by (size_by o) (first_in connect_in (told ++ others)))
    (first_kept size_in told others size)
    ∙ ap (λ (o : Option _). setup_by (size_by (first_in size_in told)) o)
    (first_kept connect_in told others connect)

-- once a connect has come, nothing more changes what it fixed
pub setup_fixed : (octets : List ℕ) (told : List Arrival) (v : Course)
    → CourseStands called octets told v → is_some (first_in connect_in told) ≡ true
    → (v.setup ≡ setup_after told)
    × ((others : List Arrival) → setup_after (told ++ others) ≡ setup_after told)
setup_fixed octets told v s connect =
    let f = has_front octets told v s in
    let size = size_first told f.messages f.starts.whole f.starts.spelled f.tell connect in (
      s.setup ∙ setup_kept told (opened v.owed) size connect,
      λ others. setup_kept told others size connect,
    )

-- ---- what is answered at once

answers_front : (told others : List Arrival) → answers_to called (told ++ others) ≡ []
    → answers_to called told ≡ []
answers_front told others e =
    front_empty (answers_to called told) (answers_to called others)
    (sym (flat_map-append (answer_to called) told others) ∙ e)
  where
    front_empty : (a b : List ℕ) → a ++ b ≡ [] → a ≡ []
    front_empty [] b e = refl
    front_empty (x ∷ a) b e = absurd cc

-- behind the first message there is no connect request
transfer_first : (tpdu : Tpdu) (at : ℕ) (held : List ℕ) (q : ConnectRequest)
    → may_come turns.Transfer (kind tpdu) ≡ true → message_of at held tpdu ≡ Some (asks q) → ⊥
transfer_first (request r) at held q c e = false≢true c
transfer_first (confirm x) at held q c e = false≢true c
transfer_first disconnect at held q c e = absurd cc
transfer_first (part true more) at held q c e = absurd cc
transfer_first (part false more) at held q c e = absurd cc

told_quiet : (t : Arrival) (before : List Arrival) (m : Message) → ((q : ConnectRequest) → m ≡ asks q → ⊥)
    → TellsNext called before t m → answer_to called t ≡ []
told_quiet (asked r) before (asks q) n s = absurd (n q refl)
told_quiet (asked r) before (confirms c) n s = absurd s
told_quiet (asked r) before transports.gone n s = absurd s
told_quiet (asked r) before (tsdu place octets) n s = absurd s
told_quiet (confirmed c) before m n s = refl
told_quiet gone before m n s = refl
told_quiet (heard h) before m n s = refl

behind_quiet : (at : ℕ) (before told : List Arrival) (messages : List Message) (octets : List ℕ)
    → SpellsMessages turns.Transfer at messages octets
    → SpellInTurn (TellsNext called) before told messages → answers_to called told ≡ []
behind_quiet at before [] messages octets s tell = refl
behind_quiet at before (t ∷ told) [] octets s tell = absurd tell
behind_quiet at before (t ∷ told) (m ∷ messages) octets s tell =
    ap (λ (os : List ℕ). os ++ answers_to called told)
    (told_quiet t before m (λ q e. transfer_first s.3.tpdu at (held_of s.3.sections) q
    s.3.comes.order (s.3.ends ∙ ap Some e)) tell.0)
    ∙ behind_quiet (at + length s.0) (before ++ t ∷ []) told messages s.1 s.4 tell.1

-- behind the first message nothing more is answered at once
pub answers_told : (octets : List ℕ) (told others : List Arrival) → HasFront octets (told ++ others)
    → 1 ≤ length told → answers_to called (told ++ others) ≡ answers_to called told
answers_told octets told others f some =
    by_first told others f.messages f.starts.whole f.starts.spelled f.tell some
  where
    by_first : (told others : List Arrival) (messages : List Message) (octets : List ℕ)
        → SpellsMessages (turns.Opening ends.Called) 0 messages octets
        → Tell called (told ++ others) messages → 1 ≤ length told
        → answers_to called (told ++ others) ≡ answers_to called told
    by_first [] others messages octets s tell c = absurd (omega (arith, c))
    by_first (t ∷ told) others [] octets s tell c = absurd tell
    by_first (t ∷ told) others (m ∷ messages) octets s tell c =
        let none = behind_quiet (0 + length s.0) (t ∷ []) (told ++ others) messages s.1 s.4 tell.1
        in
        ap (λ (os : List ℕ). answer_to called t ++ os) (none ∙ sym (answers_front told others none))

pub some_told : (told : List Arrival) → is_some (first_in connect_in told) ≡ true → 1 ≤ length told
some_told [] c = absurd (false≢true c)
some_told (t ∷ told) c = omega arith

-- once a connect has come, nothing more is answered at once
pub answers_kept : (octets : List ℕ) (told others : List Arrival) → HasFront octets (told ++ others)
    → is_some (first_in connect_in told) ≡ true
    → answers_to called (told ++ others) ≡ answers_to called told
answers_kept octets told others f connect =
    answers_told octets told others f (some_told told connect)
