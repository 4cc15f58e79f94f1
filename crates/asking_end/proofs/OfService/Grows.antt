-- What a client says and shows over octets it says and shows first over these and more.
use Rattle.std.proofs.Common.{◌≡◌, ℕ, List, [], ◌++◌, Option, Some, None, MatchOption}
use Rattle.std.proofs.Common.{refl, sym, ap, subst, ◌∙◌, append_assoc}
use Rattle.std.proofs.lemmas.List.{append-nil}
use Rattle.tpkt_cotp.specs.Places.{End, left, stopped, messages_of, stream_in}
use Rattle.tpkt_cotp.specs.Streams.{Message}
use Rattle.tpkt_cotp.specs.Written.{connection_request_octets}
use Rattle.tpkt_cotp.specs.declared.turn.Role as transports
use Rattle.tpkt_cotp.specs.declared.turn.Role.TheVariants as sorts
use Rattle.tpkt_cotp.proofs.Streaming.{left_says, stopped_stops}
use Rattle.stack_assoc.specs.declared.messages.fault.StackFault.{StackFault}
use Rattle.stack_assoc.specs.Arrivals.{Arrival, end_of}
use Rattle.stack_assoc.specs.Courses.{ReadsMessages, messages_taken}
use Rattle.stack_assoc.specs.Fronts.{StartsWith}
use Rattle.stack_assoc.specs.Tellings.{Tell, StopsTelling}
use Rattle.stack_assoc.proofs.FrontsKept.{front_said, front_stopped, front_more, stands_front}
use Rattle.stack_assoc.proofs.StreamLaws.{front_front}
use Rattle.tase_conn.specs.Map.Readings.{broken_at_end}
use Rattle.asking_end.specs.Agendas.{AgendaActs}
use Rattle.asking_end.specs.Askers.{AskerState, AskerStep, asker_start, HasHeard, asker_from}
use Rattle.asking_end.specs.Askers.{asker_behind, asker_of}
use Rattle.asking_end.specs.Callers.{Hears, HasHeardAll, IsOver, AskerStands}
use Rattle.asking_end.specs.declared.calling.CallingEnd.{CallingEnd}
use Rattle.asking_end.specs.declared.end.AskEnd.{AskEnd}
use Rattle.asking_end.proofs.HeardSteps.{with_step, front_heard, heard_end}
use Rattle.asking_end.proofs.Callers.{match_none}

-- ---- all messages of the octets

-- what the whole stream makes of the client, where its messages are these
over_messages : {A E I : Type 0} (acts : AgendaActs A E I) (title : Option (List ℕ)) (agenda : A)
    (octets : List ℕ) (all : List Message)
    → messages_of (stream_in sorts.Calling octets).messages ≡ all
    → asker_behind acts title agenda octets
    ≡ asker_from acts (broken_at_end (stream_in sorts.Calling octets).end) all
    (asker_start acts title agenda)
unfolding asker_behind
over_messages acts title agenda octets all is =
    ap (λ (ms : List Message). asker_from acts
    (broken_at_end (stream_in sorts.Calling octets).end) ms (asker_start acts title agenda)) is

-- the messages that octets begin with are the first of the whole stream
first_messages : (octets : List ℕ) (ms : List Message) → StartsWith sorts.Calling octets ms
    → (others : List Message)
    × (messages_of (stream_in sorts.Calling octets).messages ≡ ms ++ others)
first_messages octets ms s = by_end (stream_in sorts.Calling octets).end refl
  where
    by_end : (end : End) → (stream_in sorts.Calling octets).end ≡ end
        → (others : List Message)
        × (messages_of (stream_in sorts.Calling octets).messages ≡ ms ++ others)
    by_end (left count) is =
        let said = left_says sorts.Calling octets count is in
        front_said sorts.Calling octets said.0 ms
        (messages_of (stream_in sorts.Calling octets).messages) s said.1
    by_end (stopped f) is =
        front_stopped sorts.Calling octets ms
        (messages_of (stream_in sorts.Calling octets).messages) f s
        (stopped_stops sorts.Calling octets f is)

-- messages that tell what it has heard, and others
heard_first : {A E I : Type 0} (acts : AgendaActs A E I) (title : Option (List ℕ)) (agenda : A)
    (told : List Arrival) (step : AskerStep A E I)
    (broken : Option StackFault) (messages ms : List Message) → HasHeard acts title agenda told step
    → Tell step.state.role told messages
    → asker_from acts broken (messages ++ ms) (asker_start acts title agenda)
    ≡ with_step step (asker_from acts broken ms step.state)
heard_first {A = A} {E = E} {I = I} acts title agenda told step broken messages ms h tell =
    let start : AskerState A E = asker_start acts title agenda in
    front_heard acts broken ms step.state.role told messages start tell
    (ap (λ (r : AskerStep A E I). r.state.told) h.is ∙ h.told_is)
    (ap (λ (r : AskerStep A E I). r.state.role) h.is)
    ∙ ap (λ (r : AskerStep A E I). with_step r (asker_from acts broken ms r.state)) h.is

-- ---- more octets

-- over more octets a client goes on from a step
pub record GoesOnFrom {A E I : Type 0} (acts : AgendaActs A E I) (title : Option (List ℕ))
    (agenda : A) (all : List ℕ) (step : AskerStep A E I) :
    Type 0 where
  pub later : AskerStep A E I
  pub is : asker_behind acts title agenda all ≡ with_step step later

goes_on_from : {A E I : Type 0} (acts : AgendaActs A E I) (title : Option (List ℕ)) (agenda : A)
    (octets more : List ℕ) (step : AskerStep A E I)
    (c : CallingEnd A E) → Hears acts title agenda octets step c
    → GoesOnFrom acts title agenda (octets ++ more) step
goes_on_from acts title agenda octets more step c h =
    let r : ReadsMessages step.state.role octets h.told c.stack =
    match_none (ReadsMessages step.state.role octets h.told c.stack)
    (λ (f : StackFault). StopsTelling step.state.role octets h.told f) c.stack.fault h.fault
    h.stands.reads in
    let starts : StartsWith sorts.Calling octets r.messages =
    subst (λ (end : transports.Role). StartsWith end octets r.messages)
    (heard_end acts title agenda h.told step h.heard)
    (front_front (end_of step.state.role) octets r.messages (messages_taken c.stack)
    (stands_front (end_of step.state.role) octets (r.messages ++ messages_taken c.stack)
    c.stack.line r.stands)) in
    let all = first_messages (octets ++ more) r.messages
    (front_more sorts.Calling octets more r.messages starts) in
    let broken : Option StackFault =
    broken_at_end (stream_in sorts.Calling (octets ++ more)).end in record {
      later = asker_from acts broken all.0 step.state;
      is = over_messages acts title agenda (octets ++ more) (r.messages ++ all.0) all.1
          ∙ heard_first acts title agenda h.told step broken r.messages all.0 h.heard r.tell;
    }

-- what is said and shown over octets comes first
pub record SaysFirst {A E I : Type 0} (acts : AgendaActs A E I) (title : Option (List ℕ))
    (agenda : A) (octets all : List ℕ) : Type 0 where
  pub said : List ℕ
  pub said_is : (asker_of acts title agenda all).said ≡ (asker_of acts title agenda octets).said
      ++ said
  pub shown : List I
  pub shown_is : (asker_of acts title agenda all).shown ≡ (asker_of acts title agenda octets).shown
      ++ shown

abbrev called : List ℕ
called = connection_request_octets 1

pub says_first : {A E I : Type 0} (acts : AgendaActs A E I) (title : Option (List ℕ)) (agenda : A)
    (octets more : List ℕ) (c : CallingEnd A E)
    → AskerStands acts title agenda octets c → SaysFirst acts title agenda octets (octets ++ more)
says_first {A = A} {E = E} {I = I} acts title agenda octets more c s = by_end c.end s.goes
  where
    by_end : (end : Option (AskEnd E)) → MatchOption end (HasHeardAll acts title agenda octets c)
        (λ (end : AskEnd E). IsOver acts title agenda octets)
        → SaysFirst acts title agenda octets (octets ++ more)
    by_end None all =
        let step : AskerStep A E I = asker_behind acts title agenda octets in
        let g : GoesOnFrom acts title agenda (octets ++ more) step =
        goes_on_from acts title agenda octets more step c all.hears in record {
          said = g.later.said;
          said_is = ap (λ (r : AskerStep A E I). called ++ r.said) g.is
              ∙ sym (append_assoc called step.said g.later.said);
          shown = g.later.shown;
          shown_is = ap (λ (r : AskerStep A E I). r.shown) g.is;
        }
    by_end (Some end) over = record {
      said = [];
      said_is = ap (λ (r : AskerStep A E I). called ++ r.said) (over more)
          ∙ sym (append-nil (called ++ (asker_behind acts title agenda octets).said));
      shown = [];
      shown_is = ap (λ (r : AskerStep A E I). r.shown) (over more)
          ∙ sym (append-nil (asker_behind acts title agenda octets).shown);
    }
