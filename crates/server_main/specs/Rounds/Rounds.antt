-- What all rounds of a server did together.
use Rattle.std.specs.Prelude.{◌≡◌, ℕ, zero, suc, ◌+◌, ◌-◌, ◌^◌, ◌<◌, ◌≤◌, Bool, true, false, List}
use Rattle.std.specs.Prelude.{[], ◌∷◌, ◌++◌, map, length, Option, None, option_map, IfSome, Err}
use Rattle.outside.specs.Faults.{counted, next_count}
use Rattle.outside.specs.Sink.{SinkTold, AppendsPart}
use Rattle.outside.specs.Links.Links.{LinkTold, IsNewLink, closed_link}
use Rattle.outside.specs.Links.Listeners.{ListenerTold}
use Rattle.tase_views.specs.declared.event.EventKind.TheVariants.{TakeOrders}
use Rattle.tase_views.specs.declared.fault.StepFault.TheVariants as faults
use Rattle.share_turn.specs.Entries.{Each, own}
use Rattle.share_turn.specs.Public.{IsOf}
use Rattle.node_server.specs.NodeCalls.{NodeCall, NodeSeat, CallsNode}
use Rattle.server_main.specs.Plant.PlantHistory.{HasPlantLines, lines_given}
use Rattle.node_server.specs.declared.jobs.parts.JobParts.{JobParts}
use Rattle.server_main.specs.declared.run.seats.LinkSeat.{LinkSeat}
use Rattle.server_main.specs.Run.Gathering.{SharedNode, SeatClaim}
use Rattle.server_main.specs.Run.Retiring.{with_all_retired}
use Rattle.server_main.specs.Run.Rounds.{ServingState}
use Rattle.server_main.specs.declared.run.serving.ServingEnd.{ServingEnd}
use Rattle.server_main.specs.declared.run.serving.ServingEnd.TheVariants as ends

-- it ended by a fault of the listener
abbrev pub is_listener_end : ServingEnd → Bool
is_listener_end ends.ListenerFault = true
is_listener_end end = false

-- it ended by a fault of the plant
abbrev pub is_plant_end : ServingEnd → Bool
is_plant_end ends.PlantFault = true
is_plant_end end = false

-- a count that rose by one so often; it stands still at its type's end
abbrev pub counted_up : ℕ → ℕ → ℕ
counted_up zero count = count
counted_up (suc more) count = next_count (counted_up more count)

-- the call asked for orders
abbrev pub AsksForOrders : NodeCall → Type 0
AsksForOrders call = call.event ≡ TakeOrders

-- the last call was refused so, where the rounds ended by that
abbrev pub IsLastCall : ServingEnd → List NodeCall → Type 0
IsLastCall ends.Stopped calls = (before : List NodeCall) × (place : ℕ)
    × (calls ≡ before ++ record { event = TakeOrders; outcome = Err (faults.Stopped place) } ∷ [])
IsLastCall (ends.Full weight limit) calls = (before : List NodeCall)
    × (calls ≡ before
    ++ record { event = TakeOrders; outcome = Err (faults.HistoryFull weight limit) } ∷ [])
IsLastCall end calls = Unit {0}

-- The plant has the lines of all orders that the own seat was given, as it had before; a front part
-- of them where a write failed.
abbrev pub PlantHas : ServingEnd → SharedNode → NodeSeat → SinkTold → SinkTold → Type 0
PlantHas ends.PlantFault node seat start now = AppendsPart start now
    (lines_given node.setup.centre seat.number seat.front) true
PlantHas end node seat start now =
    HasPlantLines node.setup.centre seat.number seat.front start now

-- so many links have no seat, where no job could be started for them: each start that was refused
-- was counted, and memory was wanting once at most, which ended the rounds
abbrev pub CountsTurnedAway : ServingEnd → ℕ → ℕ → ℕ → Type 0
CountsTurnedAway ends.Memory many before after = (refused : ℕ)
    × (after ≡ counted_up refused before) × (refused ≤ many) × (many ≤ refused + 1)
CountsTurnedAway end many before after = after ≡ counted_up many before

-- a link that was turned away is noted as one without a seat
abbrev pub without_seat : LinkTold → Option LinkSeat
without_seat link = None

-- the own seat asked the node for orders alone, joined so many seats under which no event was
-- taken, and is still one of the node
pub record SeatAfterRounds (node : SharedNode) (before after : NodeSeat) (calls : List NodeCall)
    (many : ℕ) : Type 0 where
  pub of : IsOf node after
  pub number : after.number ≡ before.number
  pub claims : List SeatClaim
  pub count : length claims ≡ many
  pub ended : after.ended ≡ claims ++ before.ended
  pub none : Each (λ (claim : SeatClaim). own claim.0 claim.1 ≡ []) claims
  pub asks : Each AsksForOrders calls
  pub made : CallsNode node.setup before calls after.front

-- the listener: each call of accept was made in the rounds, and what was turned away was closed and
-- retired with nothing sent
pub record ListenerAfterRounds (before after : ListenerTold) (calls : ℕ) (turned : List LinkTold)
    (failed : Bool) : Type 0 where
  -- where its calls are told, accept was called at least once for each asking for orders
  pub few : IfSome before.calls (λ first. IfSome after.calls (λ last. last < 2 ^ 64 - 1
      → first + calls ≤ last))
  pub closed : Each (λ (link : LinkTold). (new : LinkTold) × IsNewLink new
      × (link ≡ closed_link new)) turned
  pub retired : after.retired ≡ (with_all_retired before turned).retired
  pub faults : after.faults ≡ counted failed before.faults
  pub name : after.name ≡ before.name

-- all rounds of a server, up to this end
pub record RoundsDone {L S C : Type 0} (node : SharedNode) (before after : ServingState L S C)
    (end : ServingEnd) : Type 0 where
  pub calls : List NodeCall
  pub turned : List LinkTold
  -- the jobs that were started, behind those that were pending before
  pub started : List (JobParts L S C)
  -- each link that was turned away has had its seat joined again
  pub seat : SeatAfterRounds node before.now.seat after.now.seat calls (length turned)
  pub last : IsLastCall end calls
  pub listener : ListenerAfterRounds before.now.listener after.now.listener (length calls) turned
      (is_listener_end end)
  -- accept gave as many links as were turned away or were given such a job
  pub accepted : after.now.listener.accepted
      ≡ option_map (λ count. count + (length turned + length started)) before.now.listener.accepted
  pub pending : after.now.spawner.pending ≡ before.now.spawner.pending ++ started
  pub noted : after.now.links.seats ≡ before.now.links.seats ++ map without_seat turned
  pub counts : CountsTurnedAway end (length turned) before.now.spawner.faults
      after.now.spawner.faults
  pub plant : (start : SinkTold)
      → HasPlantLines node.setup.centre before.now.seat.number before.now.seat.front start
      before.plant
      → PlantHas end node after.now.seat start after.plant
  pub plant_faults : after.plant.faults ≡ counted (is_plant_end end) before.plant.faults
