-- Ticks told one run after another, and what a tick's refusal says of the history.
use Rattle.std.proofs.Common.{◌≡◌, ℕ, ◌<◌, arith, Bool, false, List, [], ◌∷◌, ◌++◌, map, refl}
use Rattle.std.proofs.Common.{sym, ap, ◌∙◌, subst, append_assoc, Option, Some, None, Result, Ok}
use Rattle.std.proofs.Common.{Err}
use Rattle.std.proofs.lemmas.List.{append-nil, map-append}
use Rattle.outside.specs.Links.Clocks.{ClockTold, ReadsClock}
use Rattle.outside.specs.declared.links.clock.TheConstants.{READING_LIMIT}
use Rattle.tase_views.specs.declared.event.EventKind.{EventKind}
use Rattle.tase_views.specs.declared.event.EventKind.TheVariants.{Tick, Stop}
use Rattle.outside.proofs.Writing.{Adds-none, Adds-append}
use Rattle.tase_views.specs.declared.fault.StepFault.{StepFault}
use Rattle.tase_views.specs.declared.fault.StepFault.TheVariants as faults
use Rattle.tase_views.specs.declared.reply.Answer.{Answer}
use Rattle.tase_views.specs.History.{Past}
use Rattle.share_turn.specs.Public.{at, Came}
use Rattle.share_turn.proofs.Owned.{each_append}
use Rattle.node_server.specs.declared.turn.turn_node.NodeSetup.{NodeSetup}
use Rattle.node_server.specs.Turn.Logged.{IsRightTurn, past_in}
use Rattle.node_server.specs.NodeCalls.{NodeCall, NodeLog, NodeSeat, CallsNode, AsksNode}
use Rattle.node_server.specs.NodeCalls.{AsksStop}
use Rattle.outside.specs.Faults.{counted}
use Rattle.node_server.specs.Ticking.{IsTickFault, TickCame, IsLastTick, Ticks, is_clock_fault}
use Rattle.node_server.specs.declared.ticking.TickEnd.{TickEnd}
use Rattle.node_server.specs.declared.ticking.TickEnd.TheVariants.{ClockFault, Stopped, Full}
use Rattle.node_server.specs.declared.ticking.TickEnd.TheVariants.{Memory}
use Rattle.node_server.proofs.Refused.{MayRefuseTick, tick-refused, stop-refused}
use Rattle.node_server.proofs.Calling.{calls-append}

-- a call that came is a run of one
pub one-call : (setup : NodeSetup) (seat : NodeSeat) (event : EventKind)
    (outcome : Result Answer StepFault) (front : NodeLog)
    → Came IsRightTurn setup seat event outcome front
    → CallsNode setup seat (record { event = event; outcome = outcome } ∷ []) front
one-call setup seat event outcome front came = (front, came, refl)

-- the event was taken
pub taken_so : (setup : NodeSetup) (seat : NodeSeat) (event : EventKind) (front : NodeLog)
    → AsksNode setup seat event front None
    → (answer : Answer) × Came IsRightTurn setup seat event (Ok answer) front
taken_so setup seat event front (Ok answer, came, is) = (answer, came)
taken_so setup seat event front (Err fault, came, is) = absurd cc

-- the event was refused so
pub refused_so : (setup : NodeSetup) (seat : NodeSeat) (event : EventKind) (front : NodeLog)
    (fault : StepFault) → AsksNode setup seat event front (Some fault)
    → Came IsRightTurn setup seat event (Err fault) front
refused_so setup seat event front fault (Ok answer, came, is) = absurd cc
refused_so setup seat event front fault (Err other, came, is) =
    subst (λ (f : StepFault). Came IsRightTurn setup seat event (Err f) front) (sym (by is)) came
  where
    by : Some fault ≡ Some other → fault ≡ other
    by e = cc

module _ (setup : NodeSetup) (seat : NodeSeat) (clock later : ClockTold) where
  -- nothing was read
  pub none-told : Ticks setup seat seat.front clock clock None
  none-told = record {
    readings = [];
    calls = [];
    last = [];
    given = Adds-none clock.readings;
    ticks = refl;
    goes_on = tt;
    ends = refl;
    made = refl;
    faults = refl;
  }

  -- a reading was told as a tick, which came to this
  module _ (now : ℕ) (front : NodeLog) (reads : ReadsClock clock later (Some now))
      (event : EventKind) (is_tick : event ≡ Tick now) where
    told_on : (outcome : Result Answer StepFault)
        → Came IsRightTurn setup seat event outcome front → TickCame outcome None
        → Ticks setup seat front clock later None
    told_on outcome came on = record {
      readings = now ∷ [];
      calls = record { event = event; outcome = outcome } ∷ [];
      last = [];
      given = reads.readings;
      ticks = ap (λ (e : EventKind). e ∷ []) is_tick;
      goes_on = (on, tt);
      ends = refl;
      made = one-call setup seat event outcome front came;
      faults = reads.faults;
    }

    told_last : (outcome : Result Answer StepFault) (end : TickEnd)
        → Came IsRightTurn setup seat event outcome front
        → IsLastTick (Some end) (record { event = event; outcome = outcome } ∷ [])
        → is_clock_fault (Some end) ≡ false
        → Ticks setup seat front clock later (Some end)
    told_last outcome end came is other = record {
      readings = now ∷ [];
      calls = [];
      last = record { event = event; outcome = outcome } ∷ [];
      given = reads.readings;
      ticks = ap (λ (e : EventKind). e ∷ []) is_tick;
      goes_on = tt;
      ends = is;
      made = one-call setup seat event outcome front came;
      faults = reads.faults ∙ ap (λ (b : Bool). counted b clock.faults) (sym other);
    }

    no_clock_fault : (outcome : Result Answer StepFault)
        → TickCame outcome (Some ClockFault) → ⊥
    no_clock_fault (Ok answer) is = absurd cc
    no_clock_fault (Err (faults.Backward last)) is = absurd cc
    no_clock_fault (Err (faults.Stopped place)) is = absurd cc
    no_clock_fault (Err (faults.HistoryFull weight limit)) is = absurd cc
    no_clock_fault (Err faults.Memory) is = absurd cc
    no_clock_fault (Err faults.NoAssociation) is = is
    no_clock_fault (Err faults.Already) is = is
    no_clock_fault (Err faults.UnknownName) is = is
    no_clock_fault (Err faults.ClockRange) is = is

    pub tick-told : (outcome : Result Answer StepFault) (end : Option TickEnd)
        → Came IsRightTurn setup seat event outcome front → TickCame outcome end
        → Ticks setup seat front clock later end
    tick-told outcome None came is = told_on outcome came is
    tick-told outcome (Some ClockFault) came is = absurd (no_clock_fault outcome is)
    tick-told outcome (Some Stopped) came is = told_last outcome Stopped came (_, refl, is) refl
    tick-told outcome (Some (Full weight limit)) came is =
        told_last outcome (Full weight limit) came (_, refl, is) refl
    tick-told outcome (Some Memory) came is = told_last outcome Memory came (_, refl, is) refl

-- a refused tick ends it or is passed over
may_end : (past : Past) (now : ℕ) (fault : StepFault) → now < READING_LIMIT
    → MayRefuseTick past now fault → IsTickFault fault
may_end past now faults.Memory within may = (Some Memory, refl)
may_end past now (faults.Stopped place) within may = (Some Stopped, refl)
may_end past now (faults.HistoryFull weight limit) within may = (Some (Full weight limit), refl)
may_end past now faults.NoAssociation within may = absurd may
may_end past now faults.Already within may = absurd may
may_end past now faults.UnknownName within may = absurd may
may_end past now faults.ClockRange within may = absurd (omega arith)
may_end past now (faults.Backward last) within may = (None, refl)

pub tick-fault : (setup : NodeSetup) (seat : NodeSeat) (now : ℕ) (fault : StepFault)
    (front : NodeLog) (event : EventKind) → event ≡ Tick now → now < READING_LIMIT
    → Came IsRightTurn setup seat event (Err fault) front → IsTickFault fault
tick-fault setup seat now fault front event is_tick within came =
    let told : Came IsRightTurn setup seat (Tick now) (Err fault) front = subst
    (λ (e : EventKind). Came IsRightTurn setup seat e (Err fault) front) is_tick came in
    may_end (past_in told.0) now fault within
    (tick-refused (record { centre = setup.centre; limit = setup.limit }) (past_in told.0)
    seat.number now fault told.2)

-- a stop that came
pub stop-asked : (setup : NodeSetup) (seat : NodeSeat) (outcome : Result Answer StepFault)
    (front : NodeLog) (event : EventKind) → event ≡ Stop
    → Came IsRightTurn setup seat event outcome front
    → (calls : List NodeCall) × AsksStop calls × CallsNode setup seat calls front
stop-asked setup seat outcome front event is_stop came =
    let asked : Came IsRightTurn setup seat Stop outcome front = subst
    (λ (e : EventKind). Came IsRightTurn setup seat e outcome front) is_stop came in (
      record { event = Stop; outcome = outcome } ∷ [],
      (
        outcome,
        stop-refused (record { centre = setup.centre; limit = setup.limit }) (past_in asked.0)
            seat.number outcome asked.2,
        refl,
      ),
      one-call setup seat Stop outcome front asked,
    )

-- what was told so far, and what comes next
module _ (setup : NodeSetup) (seat : NodeSeat) (seen front : NodeLog)
    (clock middle later : ClockTold) (end : Option TickEnd)
    (first : Ticks setup seat seen clock middle None)
    (then : Ticks setup (at seat seen) front middle later end) where
  -- nothing ended the first
  open_calls : CallsNode setup seat first.calls seen
  open_calls = subst (λ (l : List NodeCall). CallsNode setup seat l seen)
      (append-nil first.calls)
      (subst (λ (l : List NodeCall). CallsNode setup seat (first.calls ++ l) seen) first.ends
      first.made)

  open_ticks : map (λ (call : NodeCall). call.event) first.calls ≡ map Tick first.readings
  open_ticks = subst (λ (l : List NodeCall). map (λ (call : NodeCall). call.event) l
      ≡ map Tick first.readings) (ap (λ (l : List NodeCall). first.calls ++ l) first.ends
      ∙ append-nil first.calls) first.ticks

  pub ticks-then : Ticks setup seat front clock later end
  ticks-then = record {
    readings = first.readings ++ then.readings;
    calls = first.calls ++ then.calls;
    last = then.last;
    given = Adds-append clock.readings middle.readings later.readings first.readings then.readings
        first.given then.given;
    ticks = ap (map (λ (call : NodeCall). call.event))
        (append_assoc first.calls then.calls then.last)
        ∙ (map-append (λ (call : NodeCall). call.event) first.calls (then.calls ++ then.last)
        ∙ (ap (λ (l : List EventKind). l ++ map (λ (call : NodeCall). call.event)
        (then.calls ++ then.last)) open_ticks
        ∙ (ap (λ (l : List EventKind). map Tick first.readings ++ l) then.ticks
        ∙ sym (map-append Tick first.readings then.readings))));
    goes_on = each_append (λ (call : NodeCall). TickCame call.outcome None) first.calls then.calls
        first.goes_on then.goes_on;
    ends = then.ends;
    made = subst (λ (l : List NodeCall). CallsNode setup seat l front)
        (sym (append_assoc first.calls then.calls then.last))
        (calls-append IsRightTurn setup seat first.calls (then.calls ++ then.last) seen front
        open_calls then.made);
    faults = then.faults ∙ ap (counted (is_clock_fault end)) first.faults;
  }

-- the same, where the seat stands behind what was told so far
pub ticks-on : (setup : NodeSetup) (seat here : NodeSeat) → here ≡ at seat here.front
    → (front : NodeLog) (clock middle later : ClockTold) (end : Option TickEnd)
    → Ticks setup seat here.front clock middle None → Ticks setup here front middle later end
    → Ticks setup seat front clock later end
ticks-on setup seat here same front clock middle later end first then =
    ticks-then setup seat here.front front clock middle later end first
    (subst (λ (s : NodeSeat). Ticks setup s front middle later end) same then)
