-- A stream tells or stops, in one way; what was told stays told.
use Rattle.std.proofs.Common.{◌≡◌, ℕ, ◌+◌, List, [], ◌∷◌, ◌++◌, length, ◌⊎◌, inl, inr, refl, sym, ap}
use Rattle.std.proofs.Common.{subst, ◌∙◌, append_assoc, get_or, drop, Option, Some, None, MatchOption}
use Rattle.tpkt_cotp.specs.declared.turn.Role as transport
use Rattle.tpkt_cotp.specs.declared.turn.Turn.{Turn}
use Rattle.tpkt_cotp.specs.declared.turn.Turn.TheVariants as turns
use Rattle.tpkt_cotp.specs.Streams.{Message, SpellsMessages}
use Rattle.tpkt_cotp.proofs.Always as below
use Rattle.tpkt_cotp.proofs.OneStream as once
use Rattle.tpkt_cotp.proofs.Answering.{stops_more}
use Rattle.stack_assoc.specs.declared.messages.fault.StackFault.{StackFault}
use Rattle.stack_assoc.specs.Fronts.{StartsWith}
use Rattle.stack_assoc.specs.Arrivals.{Arrival, Role, end_of}
use Rattle.stack_assoc.specs.Tellings.{TellsNext, BreaksNext, Tell, Tells, StopsBelow, StopsAbove}
use Rattle.stack_assoc.specs.Tellings.{StopsTelling, transport_fault}
use Rattle.stack_assoc.specs.Courses.{Course, ReadsMessages}
use Rattle.stack_assoc.proofs.FrontsKept.{front_said, front_stopped, front_more, said_front}
use Rattle.stack_assoc.proofs.FrontsKept.{stopped_front}
use Rattle.stack_assoc.proofs.TurnLaws.{spelled_once, spelled_parts, BrokenTurn}
use Rattle.stack_assoc.proofs.TurnLaws.{spelled_or_broken, spelled_unbroken, broken_once}
use Rattle.stack_assoc.proofs.Readings.{OneMeaning, one_each}

-- the octets of the first messages
pub record FirstOctets (turn : Turn) (at : ℕ) (ms : List Message) (octets : List ℕ) : Type 0 where
  pub whole : List ℕ
  pub more : List ℕ
  pub is : octets ≡ whole ++ more
  pub spelled : SpellsMessages turn at ms whole

first_octets : (turn : Turn) (at : ℕ) (ms ns : List Message) (octets : List ℕ)
    → SpellsMessages turn at (ms ++ ns) octets → FirstOctets turn at ms octets
first_octets turn at [] ns octets s = record {
  whole = [];
  more = octets;
  is = refl;
  spelled = refl;
}
first_octets turn at (m ∷ ms) ns octets s =
    let r = first_octets turns.Transfer (at + length s.0) ms ns s.1 s.4 in
    record {
      whole = s.0 ++ r.whole;
      more = r.more;
      is = s.2 ∙ ap (λ (os : List ℕ). s.0 ++ os) r.is ∙ sym (append_assoc s.0 r.whole r.more);
      spelled = (s.0, r.whole, refl, s.3, r.spelled);
    }

-- what begins with more messages begins with the first of them
pub front_front : (role : transport.Role) (octets : List ℕ) (ms ns : List Message)
    → StartsWith role octets (ms ++ ns) → StartsWith role octets ms
front_front role octets ms ns s =
    let r = first_octets (turns.Opening role) 0 ms ns s.whole s.spelled in
    record {
      whole = r.whole;
      more = r.more ++ s.more;
      is = s.is ∙ ap (λ (os : List ℕ). os ++ s.more) r.is ∙ append_assoc r.whole r.more s.more;
      spelled = r.spelled;
    }

abbrev pub Continues : List Message → List Message → Type 0
Continues ms all = (others : List Message) × (all ≡ ms ++ others)

-- all messages of the octets, which any front of them begins
pub record AllMessages (role : transport.Role) (octets : List ℕ) : Type 0 where
  pub messages : List Message
  pub starts : StartsWith role octets messages
  pub continues : (ms : List Message) → StartsWith role octets ms → Continues ms messages

all_messages : (role : transport.Role) (octets : List ℕ) → AllMessages role octets
all_messages role octets = elim (below.always role octets) [
  | inl said ↦ record {
    messages = said.0;
    starts = said_front role octets said.1 said.0 said.2;
    continues = λ ms s. front_said role octets said.1 ms said.0 s said.2;
  }
  | inr stopped ↦ record {
    messages = stopped.0;
    starts = stopped_front role octets stopped.0 stopped.1 stopped.2;
    continues = λ ms s. front_stopped role octets ms stopped.0 stopped.1 s stopped.2;
  }
]

-- one message, and the others
one_of : (ms : List Message) (m : Message) (others : List Message)
    → (ms ++ m ∷ []) ++ others ≡ ms ++ m ∷ others
one_of ms m others = append_assoc ms (m ∷ []) others

abbrev Outcome : Role → List ℕ → Type 0
Outcome role octets = ((told : List Arrival) × (rest : List ℕ) × Tells role octets told rest)
    ⊎ ((told : List Arrival) × (fault : StackFault) × StopsTelling role octets told fault)

abbrev pub Broken : Role → List Message → Type 0
Broken role ms = BrokenTurn {B = StackFault} (TellsNext role) (BreaksNext role) [] ms

pub above_of : (role : Role) (octets : List ℕ) (ms : List Message)
    → StartsWith (end_of role) octets ms → (b : Broken role ms)
    → StopsAbove role octets b.told b.fault
above_of role octets ms s b =
    let P : List Message → Type 0 = StartsWith (end_of role) octets in
    record {
      messages = b.passed;
      next = b.item;
      starts = front_front (end_of role) octets (b.passed ++ b.item ∷ []) b.left
          (subst P (b.is ∙ sym (one_of b.passed b.item b.left)) s);
      tell = b.spelled;
      breaks = b.breaks;
    }

stops_above : (role : Role) (octets : List ℕ) (ms : List Message)
    → StartsWith (end_of role) octets ms → Broken role ms → Outcome role octets
stops_above role octets ms s b = inr (b.told, b.fault, inr (above_of role octets ms s b))

pub tells_or_stops : (one : OneMeaning) (role : Role) (octets : List ℕ) → Outcome role octets
tells_or_stops one role octets = elim (below.always (end_of role) octets) [
  | inl said ↦ elim (spelled_or_broken (TellsNext role) (BreaksNext role) (one_each one role).each
      [] said.0) [
        | inl told ↦ inl (told.0, said.1, record { messages = said.0; said = said.2; tell = told.1 })
        | inr b ↦ stops_above role octets said.0 (said_front (end_of role) octets said.1 said.0 said.2) b
      ]
  | inr stopped ↦ elim (spelled_or_broken (TellsNext role) (BreaksNext role)
      (one_each one role).each [] stopped.0) [
        | inl told ↦ inr (
          told.0,
          transport_fault stopped.1,
          inl (record {
            messages = stopped.0;
            broken = stopped.1;
            stops = stopped.2;
            tell = told.1;
            is = refl;
          }),
        )
        | inr b ↦ stops_above role octets stopped.0
            (stopped_front (end_of role) octets stopped.0 stopped.1 stopped.2) b
      ]
]

same_told : (one : OneMeaning) (role : Role) (told other : List Arrival) (ms ns : List Message)
    → ms ≡ ns → Tell role told ms → Tell role other ns → told ≡ other
same_told one role told other ms ns e s t =
    let P : List Message → Type 0 = λ xs. Tell role told xs in
    spelled_once (TellsNext role) (one_each one role).once [] told other ns (subst P e s) t

pub tells_once : (one : OneMeaning) (role : Role) (octets : List ℕ) (told other : List Arrival)
    (rest left : List ℕ) → Tells role octets told rest → Tells role octets other left
    → (told ≡ other) × (rest ≡ left)
tells_once one role octets told other rest left s t =
    let same = once.says_once (end_of role) octets s.messages t.messages rest left s.said t.said in
    (same_told one role told other s.messages t.messages same.0 s.tell t.tell, same.1)

-- a message that breaks a rule isn't among messages that were told
not_told : (one : OneMeaning) (role : Role) (told other : List Arrival) (ms : List Message)
    (m : Message) (all : List Message) (f : StackFault) → Continues (ms ++ m ∷ []) all
    → Tell role told all → Tell role other ms → BreaksNext role other m f → ⊥
not_told one role told other ms m all f c s t b =
    let P : List Message → Type 0 = λ xs. Tell role told xs in
    spelled_unbroken (TellsNext role) (BreaksNext role) (one_each one role) [] told other ms m c.0 f
    (subst P (c.1 ∙ one_of ms m c.0) s) t b

above_once : (one : OneMeaning) (role : Role) (octets : List ℕ) (told other : List Arrival)
    (f g : StackFault) → StopsAbove role octets told f → StopsAbove role octets other g
    → (told ≡ other) × (f ≡ g)
above_once one role octets told other f g s t =
    let all = all_messages (end_of role) octets in
    let c = all.continues (s.messages ++ s.next ∷ []) s.starts in
    let d = all.continues (t.messages ++ t.next ∷ []) t.starts in
    let e : s.messages ++ s.next ∷ c.0 ≡ t.messages ++ t.next ∷ d.0 =
    sym (one_of s.messages s.next c.0) ∙ sym c.1 ∙ d.1 ∙ one_of t.messages t.next d.0 in
    let same = broken_once (TellsNext role) (BreaksNext role) (one_each one role) [] told other
    s.messages t.messages s.next t.next c.0 d.0 f g e s.tell t.tell s.breaks t.breaks in
    (same.told, same.fault)

mixed : (one : OneMeaning) (role : Role) (octets : List ℕ) (told other : List Arrival)
    (f g : StackFault) → StopsBelow role octets told f → StopsAbove role octets other g → ⊥
mixed one role octets told other f g s t =
    not_told one role told other t.messages t.next s.messages g
    (front_stopped (end_of role) octets (t.messages ++ t.next ∷ []) s.messages s.broken t.starts
    s.stops) s.tell t.tell t.breaks

pub stops_once : (one : OneMeaning) (role : Role) (octets : List ℕ) (told other : List Arrival)
    (f g : StackFault) → StopsTelling role octets told f → StopsTelling role octets other g
    → (told ≡ other) × (f ≡ g)
stops_once one role octets told other f g (inl s) (inl t) =
    let same = once.stops_once (end_of role) octets s.messages t.messages s.broken t.broken s.stops
    t.stops in (
      same_told one role told other s.messages t.messages same.0 s.tell t.tell,
      s.is ∙ ap transport_fault same.1 ∙ sym t.is,
    )
stops_once one role octets told other f g (inl s) (inr t) =
    absurd (mixed one role octets told other f g s t)
stops_once one role octets told other f g (inr s) (inl t) =
    absurd (mixed one role octets other told g f t s)
stops_once one role octets told other f g (inr s) (inr t) =
    above_once one role octets told other f g s t

pub never_both : (one : OneMeaning) (role : Role) (octets : List ℕ) (told other : List Arrival)
    (rest : List ℕ) (f : StackFault) → Tells role octets told rest → StopsTelling role octets other f → ⊥
never_both one role octets told other rest f s (inl t) =
    once.says_or_stops (end_of role) octets s.messages t.messages rest t.broken s.said t.stops
never_both one role octets told other rest f s (inr t) =
    not_told one role told other t.messages t.next s.messages f
    (front_said (end_of role) octets rest (t.messages ++ t.next ∷ []) s.messages t.starts s.said)
    s.tell t.tell t.breaks

-- ---- whatever follows

abbrev pub GoesOn : List Arrival → List Arrival → Type 0
GoesOn told later = (others : List Arrival) × (later ≡ told ++ others)

goes_on : (one : OneMeaning) (role : Role) (told later : List Arrival) (ms all : List Message)
    → Continues ms all → Tell role told ms → Tell role later all → GoesOn told later
goes_on one role told later ms all c s t =
    let P : List Message → Type 0 = λ xs. Tell role later xs in
    let p = spelled_parts (TellsNext role) [] later ms c.0 (subst P c.1 t) in
    let same = spelled_once (TellsNext role) (one_each one role).once [] p.first told ms p.front s in
    (p.later, p.is ∙ ap (λ (ts : List Arrival). ts ++ p.later) same)

tells_front : (role : Role) (octets rest more : List ℕ) (told : List Arrival)
    → (s : Tells role octets told rest) → StartsWith (end_of role) (octets ++ more) s.messages
tells_front role octets rest more told s =
    front_more (end_of role) octets more s.messages
    (said_front (end_of role) octets rest s.messages s.said)

pub told_stays : (one : OneMeaning) (role : Role) (octets more : List ℕ) (told later : List Arrival)
    (rest left : List ℕ) → Tells role octets told rest → Tells role (octets ++ more) later left
    → GoesOn told later
told_stays one role octets more told later rest left s t =
    goes_on one role told later s.messages t.messages
    (front_said (end_of role) (octets ++ more) left s.messages t.messages
    (tells_front role octets rest more told s) t.said) s.tell t.tell

-- two fronts of the same messages: one of them goes on in the other, or the other passes it
front_or_past : (xs ys : List Message) (y : Message) (more rest : List Message)
    → xs ++ more ≡ ys ++ y ∷ rest → Continues xs ys ⊎ Continues (ys ++ y ∷ []) xs
front_or_past [] ys y more rest e = inl (ys, refl)
front_or_past (x ∷ xs) [] y more rest e =
    let first : x ≡ y = ap (λ (l : List Message). get_or l 0 x) e in
    inr (xs, ap (λ (m : Message). m ∷ xs) first)
front_or_past (x ∷ xs) (z ∷ ys) y more rest e =
    let first : x ≡ z = ap (λ (l : List Message). get_or l 0 x) e in
    let tail : xs ++ more ≡ ys ++ y ∷ rest = ap (λ (l : List Message). drop 1 l) e in
    elim (front_or_past xs ys y more rest tail) [
      | inl c ↦ inl (
        c.0,
        ap (λ (m : Message). m ∷ ys) (sym first)
            ∙ ap (λ (l : List Message). x ∷ l) c.1,
      )
      | inr c ↦ inr (
        c.0,
        ap (λ (m : Message). m ∷ xs) first
            ∙ ap (λ (l : List Message). z ∷ l) c.1,
      )
    ]

-- behind messages that were told, a message breaks a rule
above_later : (one : OneMeaning) (role : Role) (octets : List ℕ) (told later : List Arrival)
    (ms : List Message) (f : StackFault) → StartsWith (end_of role) octets ms → Tell role told ms
    → StopsAbove role octets later f → GoesOn told later
above_later one role octets told later ms f s tell t =
    let all = all_messages (end_of role) octets in
    let c = all.continues ms s in
    let d = all.continues (t.messages ++ t.next ∷ []) t.starts in
    elim (front_or_past ms t.messages t.next c.0 d.0
    (sym c.1 ∙ d.1 ∙ one_of t.messages t.next d.0)) [
      | inl g ↦ goes_on one role told later ms t.messages g tell t.tell
      | inr p ↦ absurd (not_told one role told later t.messages t.next ms f p tell t.tell t.breaks)
    ]

pub stopped_stays : (one : OneMeaning) (role : Role) (octets more : List ℕ) (told later : List Arrival)
    (rest : List ℕ) (f : StackFault) → Tells role octets told rest
    → StopsTelling role (octets ++ more) later f → GoesOn told later
stopped_stays one role octets more told later rest f s (inl t) =
    goes_on one role told later s.messages t.messages
    (front_stopped (end_of role) (octets ++ more) s.messages t.messages t.broken
    (tells_front role octets rest more told s) t.stops) s.tell t.tell
stopped_stays one role octets more told later rest f s (inr t) =
    above_later one role (octets ++ more) told later s.messages f
    (tells_front role octets rest more told s) s.tell t

pub fault_stays : (role : Role) (octets more : List ℕ) (told : List Arrival) (f : StackFault)
    → StopsTelling role octets told f → StopsTelling role (octets ++ more) told f
fault_stays role octets more told f (inl s) = inl (record {
  messages = s.messages;
  broken = s.broken;
  stops = stops_more (end_of role) octets more s.messages s.broken s.stops;
  tell = s.tell;
  is = s.is;
})
fault_stays role octets more told f (inr s) = inr (record {
  messages = s.messages;
  next = s.next;
  starts = front_more (end_of role) octets more (s.messages ++ s.next ∷ []) s.starts;
  tell = s.tell;
  breaks = s.breaks;
})

-- ends that have told all of the same octets have told the same
pub told_alike : (one : OneMeaning) (role : Role) (octets : List ℕ) (told others : List Arrival)
    (f g : Option StackFault) (v w : Course)
    → MatchOption f (ReadsMessages role octets told v) (λ f. StopsTelling role octets told f)
    → MatchOption g (ReadsMessages role octets others w) (λ g. StopsTelling role octets others g)
    → MatchOption f ((rest : List ℕ) × Tells role octets told rest) (λ f. Unit {0})
    → MatchOption g ((rest : List ℕ) × Tells role octets others rest) (λ g. Unit {0})
    → (told ≡ others) × (f ≡ g)
told_alike one role octets told others None None v w a b s t =
    ((tells_once one role octets told others s.0 t.0 s.1 t.1).0, refl)
told_alike one role octets told others None (Some g) v w a b s t =
    absurd (never_both one role octets told others s.0 g s.1 b)
told_alike one role octets told others (Some f) None v w a b s t =
    absurd (never_both one role octets others told t.0 f t.1 a)
told_alike one role octets told others (Some f) (Some g) v w a b s t =
    let same = stops_once one role octets told others f g a b in
    (same.0, ap (λ (x : StackFault). Some x) same.1)
