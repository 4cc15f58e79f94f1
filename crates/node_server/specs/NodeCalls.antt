-- The calls that a seat of the shared node makes.
use Rattle.std.specs.Prelude.{◌≡◌, ◌⊎◌, ℕ, ◌≤◌, ◌<◌, List, [], ◌∷◌, ◌++◌, Result, Ok, Err}
use Rattle.std.specs.Prelude.{Option}
use Rattle.std.specs.Result.{result_err}
use mathlib.Core.List.{IsPrefix}
use Rattle.tase_views.specs.declared.event.EventKind.{EventKind}
use Rattle.tase_views.specs.declared.event.EventKind.TheVariants.{Tick, Stop}
use Rattle.tase_views.specs.declared.fault.StepFault.{StepFault}
use Rattle.tase_views.specs.declared.fault.StepFault.TheVariants.{Memory, Stopped, HistoryFull}
use Rattle.tase_views.specs.declared.fault.StepFault.TheVariants.{NoAssociation, Already}
use Rattle.tase_views.specs.declared.fault.StepFault.TheVariants.{UnknownName, ClockRange, Backward}
use Rattle.tase_views.specs.declared.reply.Answer.{Answer}
use Rattle.share_turn.specs.Entries.{own}
use Rattle.share_turn.specs.Public.{Sitting, Came}
use Rattle.node_server.specs.declared.turn.turn_node.NodeSetup.{NodeSetup}
use Rattle.node_server.specs.Turn.Logged.{IsRightTurn}
use Rattle.node_server.specs.SeatCalls.{SeatCall, taken_events, MakesCalls}

abbrev pub NodeCall : Type 0
NodeCall = SeatCall EventKind Answer StepFault

-- the events that seats made, each with the number of its seat, in order
abbrev pub NodeLog : Type 0
NodeLog = List (ℕ × EventKind)

abbrev pub NodeSeat : Type 0
NodeSeat = Sitting EventKind NodeSetup

-- from where it stands the seat made these calls of the node, in order, each with a right outcome
abbrev pub CallsNode : NodeSetup → NodeSeat → List NodeCall → NodeLog → Type 0
CallsNode setup seat calls front = MakesCalls IsRightTurn setup seat calls front

-- from where it stands the seat asked the node this event, and it was refused so, if it was
abbrev pub AsksNode : NodeSetup → NodeSeat → EventKind → NodeLog → Option StepFault → Type 0
AsksNode setup seat event front refusal = (outcome : Result Answer StepFault)
    × Came IsRightTurn setup seat event outcome front × (refusal ≡ result_err outcome)

-- a stop was taken, or the history had one already
abbrev pub IsStopOutcome : Result Answer StepFault → Type 0
IsStopOutcome (Ok answer) = Unit {0}
IsStopOutcome (Err (Stopped place)) = Unit {0}
IsStopOutcome (Err Memory) = ⊥
IsStopOutcome (Err (HistoryFull weight limit)) = ⊥
IsStopOutcome (Err NoAssociation) = ⊥
IsStopOutcome (Err Already) = ⊥
IsStopOutcome (Err UnknownName) = ⊥
IsStopOutcome (Err ClockRange) = ⊥
IsStopOutcome (Err (Backward last)) = ⊥

-- one stop was asked
abbrev pub AsksStop : List NodeCall → Type 0
AsksStop calls = (outcome : Result Answer StepFault) × IsStopOutcome outcome
    × (calls ≡ record { event = Stop; outcome = outcome } ∷ [])

-- a stop is asked behind calls, but where they end so
abbrev pub StopsBehind : Type 0 → List NodeCall → Type 0
StopsBehind EndsSo calls = (EndsSo → calls ≡ []) × ((EndsSo → ⊥) → AsksStop calls)

-- an entry of the log is a tick of at least this moment
abbrev pub HasTickFrom : ℕ → NodeLog → Type 0
HasTickFrom moment [] = ⊥
HasTickFrom moment (entry ∷ log) =
    ((now : ℕ) × (moment ≤ now) × (entry.1 ≡ Tick now)) ⊎ HasTickFrom moment log

-- Where one of the calls was a tick above 0 and was answered that its moment wasn't above the last
-- one, there was a tick of at least that moment: what was seen by then has one, and in it stand of
-- the seat's own entries of these calls those of the calls before, and no later one.
abbrev pub HadTheirTicks : NodeSeat → List NodeCall → NodeLog → Type 0
HadTheirTicks seat calls front = (before later : List NodeCall) (moment last : ℕ)
    → calls ≡ before ++ record { event = Tick moment; outcome = Err (Backward last) } ∷ later
    → 0 < moment → (seen : NodeLog) × IsPrefix seen front
    × (own seat.number seen ≡ own seat.number seat.front ++ taken_events before)
    × HasTickFrom moment seen
