-- What a feed says next, asked of the node.
use Rattle.std.proofs.Common.{◌≡◌, inl, inr, ℕ, Bool, true, false, List, [], ◌∷◌, ◌++◌}
use Rattle.std.proofs.Common.{refl, sym, ap, subst, Option, Some, None, Result, Ok, Err}
use Rattle.std.specs.Prelude.{if◌then◌else◌, option_map}
use Rattle.tase_views.specs.declared.event.EventKind.{EventKind}
use Rattle.tase_views.specs.declared.fault.StepFault.{StepFault}
use Rattle.tase_views.specs.declared.fault.StepFault.TheVariants as faults
use Rattle.tase_views.specs.declared.reply.Answer.{Answer}
use Rattle.tase_views.specs.Setup.{Setup}
use Rattle.tase_views.specs.History.{Past, association_in, stop_in}
use Rattle.tase_views.specs.Outcomes.{refusal_of, first_refusal, IsRefusal, is_close, seat_refusal}
use Rattle.tase_views.specs.Outcomes.{name_refusal, clock_refusal, stop_refusal, weight_refusal}
use Rattle.bilateral.specs.Rows.{CentreRows}
use Rattle.share_turn.specs.Public.{Came}
use Rattle.node_server.specs.declared.turn.turn_node.NodeSetup.{NodeSetup}
use Rattle.node_server.specs.Turn.Logged.{IsRightTurn, past_in}
use Rattle.node_server.specs.NodeCalls.{NodeCall, NodeLog, NodeSeat}
use Rattle.node_server.specs.FeedReading.{FeedPlace, yet_fed, says_then, TakesOctet, IsFedEvent}
use Rattle.node_server.specs.FeedReading.{IsLineEnd, MayBeSaid}
use Rattle.node_server.specs.Feeding.{FeedCame, IsFeedFault, IsLastEvent, asked_in, says_all, FedTo}
use Rattle.node_server.specs.Feeding.{SaysSoFar, MayBeRefused, IsInside, AsksWhatIsSaid, ActsOn}
use Rattle.node_server.specs.Feeding.{FeedsOctets, TellsFeed, is_source_fault}
use Rattle.node_server.specs.declared.feed_reader.FeedSays.{FeedSays}
use Rattle.node_server.specs.declared.feed_reader.FeedSays.TheVariants.{Nothing, Asks, Ends}
use Rattle.node_server.specs.declared.feed_end.FeedEnd.{FeedEnd}
use Rattle.node_server.specs.declared.feed_end.FeedEnd.TheVariants.{Ended, StopLine, BadLine}
use Rattle.node_server.specs.declared.feed_end.FeedEnd.TheVariants.{LongLine, SourceFault, Stopped}
use Rattle.node_server.specs.declared.feed_end.FeedEnd.TheVariants.{Full, Memory}
use Rattle.node_server.proofs.Ticked.{one-call}

same_some : {X : Type 0} (a b : X) → Some a ≡ Some b → a ≡ b
same_some a b e = cc

-- what an event may be refused for that has no cause of its own
abbrev MayRefuseFed : StepFault → Type 0
MayRefuseFed faults.Memory = Unit {0}
MayRefuseFed (faults.Stopped place) = Unit {0}
MayRefuseFed (faults.HistoryFull weight limit) = Unit {0}
MayRefuseFed faults.NoAssociation = ⊥
MayRefuseFed faults.Already = ⊥
MayRefuseFed faults.UnknownName = ⊥
MayRefuseFed faults.ClockRange = ⊥
MayRefuseFed (faults.Backward last) = ⊥

by_stop : (b : Bool) (s : Option ℕ) (fault : StepFault)
    → (if b then None else option_map (λ (place : ℕ). faults.Stopped place) s) ≡ Some fault
    → MayRefuseFed fault
by_stop true s fault e = absurd cc
by_stop false None fault e = absurd cc
by_stop false (Some place) fault e =
    subst MayRefuseFed (same_some (faults.Stopped place) fault e) tt

by_weight : (b : Bool) (weight limit : ℕ) (fault : StepFault)
    → (if b then Some (faults.HistoryFull weight limit) else None) ≡ Some fault
    → MayRefuseFed fault
by_weight true weight limit fault e =
    subst MayRefuseFed (same_some (faults.HistoryFull weight limit) fault e) tt
by_weight false weight limit fault e = absurd cc

two_none : (s n : Option StepFault) → first_refusal (s ∷ n ∷ []) ≡ None → (s ≡ None) × (n ≡ None)
two_none (Some fault) n e = absurd cc
two_none None (Some fault) e = absurd cc
two_none None None e = (refl, refl)

in_turn : (a s n c w : Option StepFault) (fault : StepFault) → s ≡ None → n ≡ None → c ≡ None
    → (a ≡ Some fault → MayRefuseFed fault) → (w ≡ Some fault → MayRefuseFed fault)
    → first_refusal (a ∷ s ∷ n ∷ c ∷ w ∷ []) ≡ Some fault → MayRefuseFed fault
in_turn (Some first) s n c w fault hs hn hc stopped heavy e = stopped e
in_turn None (Some first) n c w fault hs hn hc stopped heavy e = absurd cc
in_turn None None (Some first) c w fault hs hn hc stopped heavy e = absurd cc
in_turn None None None (Some first) w fault hs hn hc stopped heavy e = absurd cc
in_turn None None None None (Some first) fault hs hn hc stopped heavy e = heavy e
in_turn None None None None None fault hs hn hc stopped heavy e = absurd cc

module _ (setup : Setup) (past : Past) (who : ℕ) (event : EventKind)
    (may : IsFedEvent setup.centre event) where
  refused : (fault : StepFault) → refusal_of setup past who event ≡ Some fault
      → MayRefuseFed fault
  refused fault is =
      let own = two_none (seat_refusal (association_in past who) event)
      (name_refusal setup.centre event) (may past who).0 in
      in_turn (stop_refusal past event) (seat_refusal (association_in past who) event)
      (name_refusal setup.centre event) (clock_refusal past event)
      (weight_refusal setup past event) fault own.0 own.1 (may past who).1
      (by_stop (is_close event) (stop_in past) fault) (by_weight _ _ setup.limit fault) is

  fault_of : (fault : StepFault) → IsRefusal event (refusal_of setup past who event) fault
      → IsFeedFault fault
  fault_of faults.Memory right = (Memory, refl)
  fault_of (faults.Stopped place) right = (Stopped, refl)
  fault_of (faults.HistoryFull weight limit) right = (Full weight limit, refl)
  fault_of faults.NoAssociation right = absurd (refused faults.NoAssociation right)
  fault_of faults.Already right = absurd (refused faults.Already right)
  fault_of faults.UnknownName right = absurd (refused faults.UnknownName right)
  fault_of faults.ClockRange right = absurd (refused faults.ClockRange right)
  fault_of (faults.Backward last) right = absurd (refused (faults.Backward last) right)

pub feed-fault : (setup : NodeSetup) (seat : NodeSeat) (event : EventKind) (fault : StepFault)
    (front : NodeLog) → IsFedEvent setup.centre event
    → Came IsRightTurn setup seat event (Err fault) front → IsFeedFault fault
feed-fault setup seat event fault front may came =
    fault_of (record { centre = setup.centre; limit = setup.limit }) (past_in came.0) seat.number
    event may fault came.2

-- a refused event ends it as the last one
last_event : (event : EventKind) (outcome : Result Answer StepFault) (end : FeedEnd)
    → FeedCame outcome (Some end)
    → IsLastEvent (Some end) (record { event = event; outcome = outcome } ∷ [])
    × MayBeRefused (Some end)
last_event event (Ok answer) end is = absurd cc
last_event event (Err (faults.Stopped place)) end is =
    subst (λ (e : FeedEnd). IsLastEvent (Some e)
    (record { event = event; outcome = Err (faults.Stopped place) } ∷ []) × MayBeRefused (Some e))
    (sym (same_some end Stopped is)) ((_, refl, refl), tt)
last_event event (Err (faults.HistoryFull weight limit)) end is =
    subst (λ (e : FeedEnd). IsLastEvent (Some e)
    (record { event = event; outcome = Err (faults.HistoryFull weight limit) } ∷ [])
    × MayBeRefused (Some e)) (sym (same_some end (Full weight limit) is)) ((_, refl, refl), tt)
last_event event (Err faults.Memory) end is =
    subst (λ (e : FeedEnd). IsLastEvent (Some e)
    (record { event = event; outcome = Err faults.Memory } ∷ []) × MayBeRefused (Some e))
    (sym (same_some end Memory is)) (inr (_, refl, refl), tt)
last_event event (Err faults.NoAssociation) end is = absurd is
last_event event (Err faults.Already) end is = absurd is
last_event event (Err faults.UnknownName) end is = absurd is
last_event event (Err faults.ClockRange) end is = absurd is
last_event event (Err (faults.Backward last)) end is = absurd is

module _ (setup : NodeSetup) (seat : NodeSeat) where
  pub asked : (event : EventKind) (outcome : Result Answer StepFault) (front : NodeLog)
      (end : Option FeedEnd) → Came IsRightTurn setup seat event outcome front
      → FeedCame outcome end → ActsOn setup seat front (Asks event) end
  asked event outcome front None came is = record {
    calls = record { event = event; outcome = outcome } ∷ [];
    last = [];
    goes_on = (is, tt);
    ends = refl;
    made = one-call setup seat event outcome front came;
    asks = (tt, refl);
  }
  asked event outcome front (Some end) came is =
      let last = last_event event outcome end is in
      record {
        calls = [];
        last = record { event = event; outcome = outcome } ∷ [];
        goes_on = tt;
        ends = last.0;
        made = one-call setup seat event outcome front came;
        asks = (last.1, refl);
      }

  no_last : (end : FeedEnd) → IsLineEnd end → IsLastEvent (Some end) []
  no_last StopLine is = refl
  no_last (BadLine line) is = refl
  no_last (LongLine line) is = refl
  no_last Ended is = absurd is
  no_last SourceFault is = absurd is
  no_last Stopped is = absurd is
  no_last (Full weight limit) is = absurd is
  no_last Memory is = absurd is

  pub ended-so : (end : FeedEnd) → IsLineEnd end
      → ActsOn setup seat seat.front (Ends end) (Some end)
  ended-so end is = record {
    calls = [];
    last = [];
    goes_on = tt;
    ends = no_last end is;
    made = refl;
    asks = (refl, refl);
  }

-- what is said by a line ends it before the source does
line_inside : (end : FeedEnd) → IsLineEnd end → IsInside (Some end)
line_inside StopLine is = tt
line_inside (BadLine line) is = tt
line_inside (LongLine line) is = tt
line_inside Ended is = absurd is
line_inside SourceFault is = absurd is
line_inside Stopped is = absurd is
line_inside (Full weight limit) is = absurd is
line_inside Memory is = absurd is

ask_inside : (end : Option FeedEnd) → MayBeRefused end → IsInside end
ask_inside None may = tt
ask_inside (Some Stopped) may = tt
ask_inside (Some (Full weight limit)) may = tt
ask_inside (Some Memory) may = tt
ask_inside (Some Ended) may = absurd may
ask_inside (Some StopLine) may = absurd may
ask_inside (Some (BadLine line)) may = absurd may
ask_inside (Some (LongLine line)) may = absurd may
ask_inside (Some SourceFault) may = absurd may

pub is_inside : (rows : CentreRows) (says : FeedSays) (end : Option FeedEnd)
    (events : List EventKind) → MayBeSaid rows says → AsksWhatIsSaid says end events → IsInside end
is_inside rows Nothing end events may asks = subst IsInside (sym asks.0) tt
is_inside rows (Asks event) end events may asks = ask_inside end asks.0
is_inside rows (Ends said) end events may asks = subst IsInside (sym asks.0) (line_inside said may)

-- octets of which a line says an end
line_told : (rows : CentreRows) (place : FeedPlace) (octets : List ℕ) (end : FeedEnd)
    → IsLineEnd end → yet_fed rows true place octets ≡ says_all [] end
    → FedTo rows place octets [] end
line_told rows place octets StopLine is said = said
line_told rows place octets (BadLine line) is said = said
line_told rows place octets (LongLine line) is said = said
line_told rows place octets Ended is said = absurd is
line_told rows place octets SourceFault is said = absurd is
line_told rows place octets Stopped is said = absurd is
line_told rows place octets (Full weight limit) is said = absurd is
line_told rows place octets Memory is said = absurd is

-- octets that ask an event that may be refused
ask_told : (rows : CentreRows) (place : FeedPlace) (octets : List ℕ) (end : FeedEnd)
    (event : EventKind) (rest : List EventKind) → MayBeRefused (Some end)
    → (yet_fed rows true place octets).events ≡ event ∷ rest
    → FedTo rows place octets (event ∷ []) end
ask_told rows place octets Stopped event rest may said = (rest, said)
ask_told rows place octets (Full weight limit) event rest may said = (rest, said)
ask_told rows place octets Memory event rest may said = (rest, said)
ask_told rows place octets Ended event rest may said = absurd may
ask_told rows place octets StopLine event rest may said = absurd may
ask_told rows place octets (BadLine line) event rest may said = absurd may
ask_told rows place octets (LongLine line) event rest may said = absurd may
ask_told rows place octets SourceFault event rest may said = absurd may

module _ (rows : CentreRows) (place next : FeedPlace) (octet : ℕ) where
  octet_says : (says : FeedSays) (end : Option FeedEnd) (events : List EventKind)
      → TakesOctet rows place octet next says → MayBeSaid rows says
      → AsksWhatIsSaid says end events → SaysSoFar end rows place next (octet ∷ []) events
  octet_says Nothing end events takes may (is, none) =
      subst (λ (e : Option FeedEnd). SaysSoFar e rows place next (octet ∷ []) events) (sym is)
      (subst (SaysSoFar None rows place next (octet ∷ [])) (sym none) takes)
  octet_says (Asks event) None events takes may (refused, one) =
      subst (SaysSoFar None rows place next (octet ∷ [])) (sym one) takes
  octet_says (Asks event) (Some end) events takes may (refused, one) =
      subst (SaysSoFar (Some end) rows place next (octet ∷ [])) (sym one)
      (λ more. ask_told rows place (octet ∷ more) end event (yet_fed rows true next more).events
      refused (ap (λ fed. fed.events) (takes true more)))
  octet_says (Ends said) end events takes may (is, none) =
      subst (λ (e : Option FeedEnd). SaysSoFar e rows place next (octet ∷ []) events) (sym is)
      (subst (SaysSoFar (Some said) rows place next (octet ∷ [])) (sym none)
      (λ more. line_told rows place (octet ∷ more) said may (takes more)))

pub octet-fed : (setup : NodeSetup) (seat : NodeSeat) (front : NodeLog) (place next : FeedPlace)
    (octet : ℕ) (says : FeedSays) (end : Option FeedEnd)
    → TakesOctet setup.centre place octet next says → MayBeSaid setup.centre says
    → ActsOn setup seat front says end
    → FeedsOctets setup seat front place next (octet ∷ []) end
octet-fed setup seat front place next octet says end takes may acts = record {
  calls = acts.calls;
  last = acts.last;
  goes_on = acts.goes_on;
  ends = acts.ends;
  made = acts.made;
  inside = is_inside setup.centre says end (asked_in (acts.calls ++ acts.last)) may acts.asks;
  says = octet_says setup.centre place next octet says end (asked_in (acts.calls ++ acts.last))
      takes may acts.asks;
}

-- memory ran out before anything was said
pub octet-lost : (setup : NodeSetup) (seat : NodeSeat) (place next : FeedPlace) (octets : List ℕ)
    → FeedsOctets setup seat seat.front place next octets (Some Memory)
octet-lost setup seat place next octets = record {
  calls = [];
  last = [];
  goes_on = tt;
  ends = inl refl;
  made = refl;
  inside = tt;
  says = λ more. (_, refl);
}

-- how it ends where nothing more comes
abbrev pub last_end : Option FeedEnd → FeedEnd
last_end None = Ended
last_end (Some end) = end

last_says : (rows : CentreRows) (place : FeedPlace) (says : FeedSays) (end : Option FeedEnd)
    (events : List EventKind)
    → yet_fed rows true place [] ≡ says_then says (says_all [] Ended) → MayBeSaid rows says
    → AsksWhatIsSaid says end events → FedTo rows place [] events (last_end end)
last_says rows place Nothing end events said may (is, none) =
    subst (λ (e : Option FeedEnd). FedTo rows place [] events (last_end e)) (sym is)
    (subst (λ (l : List EventKind). FedTo rows place [] l Ended) (sym none) said)
last_says rows place (Asks event) None events said may (refused, one) =
    subst (λ (l : List EventKind). FedTo rows place [] l Ended) (sym one) said
last_says rows place (Asks event) (Some end) events said may (refused, one) =
    subst (λ (l : List EventKind). FedTo rows place [] l end) (sym one)
    (ask_told rows place [] end event [] refused (ap (λ fed. fed.events) said))
last_says rows place (Ends other) end events said may (is, none) =
    subst (λ (e : Option FeedEnd). FedTo rows place [] events (last_end e)) (sym is)
    (subst (λ (l : List EventKind). FedTo rows place [] l other) (sym none)
    (line_told rows place [] other may said))

last_ends : (end : Option FeedEnd) (last : List NodeCall) → IsLastEvent end last
    → IsLastEvent (Some (last_end end)) last
last_ends None last is = is
last_ends (Some end) last is = is

pub last-fed : (setup : NodeSetup) (seat : NodeSeat) (front : NodeLog) (place : FeedPlace)
    (says : FeedSays) (end : Option FeedEnd)
    → yet_fed setup.centre true place [] ≡ says_then says (says_all [] Ended)
    → MayBeSaid setup.centre says → ActsOn setup seat front says end
    → TellsFeed setup seat front place [] (last_end end)
last-fed setup seat front place says end said may acts = record {
  calls = acts.calls;
  last = acts.last;
  goes_on = acts.goes_on;
  ends = last_ends end acts.last acts.ends;
  made = acts.made;
  says = last_says setup.centre place says end (asked_in (acts.calls ++ acts.last)) said may
      acts.asks;
}

-- the last line is no fault of the source
inside_no_fault : (end : Option FeedEnd) → IsInside end → is_source_fault (last_end end) ≡ false
inside_no_fault None is = refl
inside_no_fault (Some Ended) is = absurd is
inside_no_fault (Some SourceFault) is = absurd is
inside_no_fault (Some StopLine) is = refl
inside_no_fault (Some (BadLine line)) is = refl
inside_no_fault (Some (LongLine line)) is = refl
inside_no_fault (Some Stopped) is = refl
inside_no_fault (Some (Full weight limit)) is = refl
inside_no_fault (Some Memory) is = refl

pub last-no-fault : (setup : NodeSetup) (seat : NodeSeat) (front : NodeLog) (says : FeedSays)
    (end : Option FeedEnd) → MayBeSaid setup.centre says → ActsOn setup seat front says end
    → is_source_fault (last_end end) ≡ false
last-no-fault setup seat front says end may acts = inside_no_fault end
    (is_inside setup.centre says end (asked_in (acts.calls ++ acts.last)) may acts.asks)
