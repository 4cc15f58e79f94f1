-- The rounds of a server: a link is accepted, and orders are told to the plant.
use Rattle.std.specs.Prelude.{◌≡◌, ℕ, suc, zero, Option, Some, None}
use Rattle.outside.specs.Sink.{SinkTold}
use Rattle.outside.specs.Links.Links.{LinkTold}
use Rattle.share_turn.specs.Public.{at}
use Rattle.node_server.specs.NodeCalls.{NodeSeat}
use Rattle.server_main.specs.declared.plant.taking.OrdersTaken.{OrdersTaken}
use Rattle.server_main.specs.declared.plant.taking.OrdersTaken.TheVariants as takings
use Rattle.server_main.specs.Plant.Taking.{TakesOrders}
use Rattle.server_main.specs.Plant.PlantHistory.{HasPlantLines, HasThen}
use Rattle.server_main.specs.Run.Gathering.{SharedNode}
use Rattle.server_main.specs.Run.Accepting.{Accepting, AcceptsOnce}
use Rattle.server_main.specs.declared.run.accepting.Accepted.{Accepted}
use Rattle.server_main.specs.declared.run.accepting.Accepted.TheVariants as acceptances
use Rattle.server_main.specs.declared.run.serving.ServingEnd.{ServingEnd}
use Rattle.server_main.specs.declared.run.serving.ServingEnd.TheVariants as ends

-- a server between two rounds: where its accepting stands, and its plant
pub record ServingState (L S C : Type 0) : Type 0 where
  pub now : Accepting L S C
  pub plant : SinkTold

abbrev pub serving_state : {L S C : Type 0} → Accepting L S C → SinkTold → ServingState L S C
serving_state {L} {S} {C} now plant = record { now = now; plant = plant }

-- how a round ends by its call of accept, if it does
abbrev pub end_of_accept : Accepted → Option ServingEnd
end_of_accept acceptances.Serving = None
end_of_accept acceptances.TurnedAway = None
end_of_accept acceptances.NoLink = None
end_of_accept acceptances.Fault = Some ends.ListenerFault
end_of_accept acceptances.NoRoom = Some ends.Memory
end_of_accept acceptances.Memory = Some ends.Memory

-- how a round ends by its taking of orders, if it does
abbrev pub end_of_orders : OrdersTaken → Option ServingEnd
end_of_orders takings.Taken = None
end_of_orders takings.PlantFault = Some ends.PlantFault
end_of_orders takings.Stopped = Some ends.Stopped
end_of_orders (takings.Full weight limit) = Some (ends.Full weight limit)
end_of_orders takings.Memory = Some ends.Memory

-- the own seat took orders, which were told to the plant
pub record TakesOrdersOnce (node : SharedNode) (seat later : NodeSeat) (before after : SinkTold)
    (end : Option ServingEnd) : Type 0 where
  pub taken : OrdersTaken
  pub takes : TakesOrders node.setup seat later.front before after taken
  pub same : later ≡ at seat later.front
  -- what the plant had of all orders that the seat was given, it has still
  pub keeps : (start : SinkTold)
      → HasPlantLines node.setup.centre seat.number seat.front start before
      → HasThen taken node.setup.centre seat.number later.front start after
  pub end_is : end ≡ end_of_orders taken

-- one round behind its call of accept: it ends there, or orders are taken, and all else is as it
-- was
abbrev pub GoesBehind : {L S C : Type 0} → SharedNode → ServingState L S C → ServingState L S C
    → Option ServingEnd → Option ServingEnd → Type 0
GoesBehind {L} {S} {C} node before after (Some stop) end = (end ≡ Some stop) × (after ≡ before)
GoesBehind {L} {S} {C} node before after None end =
    TakesOrdersOnce node before.now.seat after.now.seat before.plant after.plant end
    × (after.now ≡ record before.now { seat = after.now.seat })

-- one round: accept is called once, and then orders are taken
pub record ServesRound {L S C : Type 0} (told : L → LinkTold) (node : SharedNode)
    (before after : ServingState L S C) (end : Option ServingEnd) : Type 0 where
  pub mid : Accepting L S C
  pub accepted : Accepted
  pub accepts : AcceptsOnce told node before.now mid accepted
  pub behind : GoesBehind node (record { now = mid; plant = before.plant }) after
      (end_of_accept accepted) end

-- so many rounds that didn't end it, and one that did
abbrev pub ServesRounds : {L S C : Type 0} → ℕ → (L → LinkTold) → SharedNode
    → ServingState L S C → ServingState L S C → ServingEnd → Type 0
ServesRounds {L} {S} {C} zero told node before after end =
    ServesRound told node before after (Some end)
ServesRounds {L} {S} {C} (suc many) told node before after end = (mid : ServingState L S C)
    × ServesRound told node before mid None × ServesRounds many told node mid after end

-- in rounds, as many as were needed, the serving came to its end
abbrev pub ServesOn : {L S C : Type 0} → (L → LinkTold) → SharedNode → ServingState L S C
    → ServingState L S C → ServingEnd → Type 0
ServesOn {L} {S} {C} told node before after end = (many : ℕ)
    × ServesRounds many told node before after end
