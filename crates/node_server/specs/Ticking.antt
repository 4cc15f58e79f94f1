-- A clock's readings, told to the shared node as ticks.
use Rattle.std.specs.Prelude.{◌≡◌, ℕ, Bool, true, false, List, [], ◌∷◌, ◌++◌, map, Result, Ok, Err}
use Rattle.std.specs.Prelude.{Option, Some, None}
use Rattle.outside.specs.Faults.{counted}
use Rattle.outside.specs.Octets.{Adds}
use Rattle.outside.specs.Links.Clocks.{ClockTold}
use Rattle.tase_views.specs.declared.event.EventKind.TheVariants.{Tick}
use Rattle.tase_views.specs.declared.fault.StepFault.{StepFault}
use Rattle.tase_views.specs.declared.fault.StepFault.TheVariants as faults
use Rattle.tase_views.specs.declared.reply.Answer.{Answer}
use Rattle.share_turn.specs.Entries.{Each, own}
use Rattle.share_turn.specs.Public.{at}
use Rattle.node_server.specs.declared.turn.turn_node.NodeSetup.{NodeSetup}
use Rattle.node_server.specs.SeatCalls.{taken_events}
use Rattle.node_server.specs.NodeCalls.{NodeCall, NodeLog, NodeSeat, CallsNode, StopsBehind}
use Rattle.node_server.specs.NodeCalls.{HadTheirTicks}
use Rattle.node_server.specs.declared.ticking.TickEnd.{TickEnd}
use Rattle.node_server.specs.declared.ticking.TickEnd.TheVariants.{ClockFault, Stopped, Full}
use Rattle.node_server.specs.declared.ticking.TickEnd.TheVariants.{Memory}

-- How the ticking ends by the outcome of a tick, if it does: a tick that was taken, or whose moment
-- wasn't above the last one, ends nothing. No other outcome comes.
abbrev pub TickCame : Result Answer StepFault → Option TickEnd → Type 0
TickCame (Ok answer) end = end ≡ None
TickCame (Err (faults.Backward last)) end = end ≡ None
TickCame (Err (faults.Stopped place)) end = end ≡ Some Stopped
TickCame (Err (faults.HistoryFull weight limit)) end = end ≡ Some (Full weight limit)
TickCame (Err faults.Memory) end = end ≡ Some Memory
TickCame (Err faults.NoAssociation) end = ⊥
TickCame (Err faults.Already) end = ⊥
TickCame (Err faults.UnknownName) end = ⊥
TickCame (Err faults.ClockRange) end = ⊥

-- why a tick may be refused
abbrev pub IsTickFault : StepFault → Type 0
IsTickFault fault = (end : Option TickEnd) × TickCame (Err fault) end

-- the tick that the ticking ends with: none where it goes on, or where the clock failed
abbrev pub IsLastTick : Option TickEnd → List NodeCall → Type 0
IsLastTick None calls = calls ≡ []
IsLastTick (Some ClockFault) calls = calls ≡ []
IsLastTick (Some Stopped) calls =
    (call : NodeCall) × (calls ≡ call ∷ []) × TickCame call.outcome (Some Stopped)
IsLastTick (Some (Full weight limit)) calls =
    (call : NodeCall) × (calls ≡ call ∷ []) × TickCame call.outcome (Some (Full weight limit))
IsLastTick (Some Memory) calls =
    (call : NodeCall) × (calls ≡ call ∷ []) × TickCame call.outcome (Some Memory)

abbrev pub is_clock_fault : Option TickEnd → Bool
is_clock_fault None = false
is_clock_fault (Some ClockFault) = true
is_clock_fault (Some Stopped) = false
is_clock_fault (Some (Full weight limit)) = false
is_clock_fault (Some Memory) = false

-- From where the seat stands, a clock was read up to this end, if it ended, and each reading was
-- told to the node as a tick.
pub record Ticks (setup : NodeSetup) (seat : NodeSeat) (front : NodeLog) (clock later : ClockTold)
    (end : Option TickEnd) : Type 0 where
  -- the readings that the clock gave
  pub readings : List ℕ
  -- the ticks but the one that ended it, and that one, where a tick did
  pub calls : List NodeCall
  pub last : List NodeCall
  pub given : Adds clock.readings later.readings readings
  -- they are one tick for each reading, in order
  pub ticks : map (λ (call : NodeCall). call.event) (calls ++ last) ≡ map Tick readings
  -- each of them but the last was taken, or its moment wasn't above the last one
  pub goes_on : Each (λ (call : NodeCall). TickCame call.outcome None) calls
  pub ends : IsLastTick end last
  pub made : CallsNode setup seat (calls ++ last) front
  -- the clock's count of faults rose by one exactly where it ended so
  pub faults : later.faults ≡ counted (is_clock_fault end) clock.faults

-- A clock was told to the node up to its end, and then the stop.
pub record RunsTicks (setup : NodeSetup) (seat : NodeSeat) (front : NodeLog)
    (clock later : ClockTold) (end : TickEnd) : Type 0 where
  -- what was seen behind the ticks
  pub seen : NodeLog
  pub told : Ticks setup seat seen clock later (Some end)
  pub stop : List NodeCall
  pub stops : StopsBehind (end ≡ Stopped) stop
  pub stopped : CallsNode setup (at seat seen) stop front
  -- the seat's own entries are the ticks that were taken, and the stop, where it was taken
  pub own_entries : own seat.number front
      ≡ own seat.number seat.front ++ taken_events told.calls ++ taken_events stop
  -- what was passed over had a tick of at least its moment
  pub had : HadTheirTicks seat told.calls front
