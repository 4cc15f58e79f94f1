-- What comes of a taking of orders, and what the plant is told then.
use Rattle.std.specs.Prelude.{◌≡◌, true, List, Result, Ok, Err}
use Rattle.outside.specs.Sink.{SinkTold, AppendsAll, AppendsPart}
use Rattle.bilateral.specs.Rows.{CentreRows}
use Rattle.sbo_device.specs.declared.order.Order.{Order}
use Rattle.tase_views.specs.declared.event.EventKind.TheVariants.{TakeOrders}
use Rattle.tase_views.specs.declared.fault.StepFault.{StepFault}
use Rattle.tase_views.specs.declared.fault.StepFault.TheVariants as faults
use Rattle.tase_views.specs.declared.reply.Answer.{Answer}
use Rattle.tase_views.specs.declared.reply.Answer.TheVariants as answers
use Rattle.share_turn.specs.Public.{Came}
use Rattle.node_server.specs.declared.turn.turn_node.NodeSetup.{NodeSetup}
use Rattle.node_server.specs.Turn.Logged.{IsRightTurn}
use Rattle.node_server.specs.NodeCalls.{NodeLog, NodeSeat}
use Rattle.texts.specs.Orders.PlantLines.{plant_text}
use Rattle.server_main.specs.declared.plant.taking.OrdersTaken.{OrdersTaken}
use Rattle.server_main.specs.declared.plant.taking.OrdersTaken.TheVariants.{Taken, PlantFault, Stopped}
use Rattle.server_main.specs.declared.plant.taking.OrdersTaken.TheVariants.{Full, Memory}

-- these orders were written as lines: all, or a front part of the lines before a write that failed
abbrev pub WritesOrders : CentreRows → List Order → SinkTold → SinkTold → OrdersTaken → Type 0
WritesOrders rows orders before after Taken = AppendsAll before after (plant_text rows orders)
WritesOrders rows orders before after PlantFault =
    AppendsPart before after (plant_text rows orders) true
WritesOrders rows orders before after Stopped = ⊥
WritesOrders rows orders before after (Full weight limit) = ⊥
WritesOrders rows orders before after Memory = ⊥

-- how a taking ends that was refused so; no other refusal comes
abbrev pub IsEndOfRefusal : StepFault → OrdersTaken → Type 0
IsEndOfRefusal (faults.Stopped place) end = end ≡ Stopped
IsEndOfRefusal (faults.HistoryFull weight limit) end = end ≡ Full weight limit
IsEndOfRefusal faults.Memory end = end ≡ Memory
IsEndOfRefusal faults.NoAssociation end = ⊥
IsEndOfRefusal faults.Already end = ⊥
IsEndOfRefusal faults.UnknownName end = ⊥
IsEndOfRefusal faults.ClockRange end = ⊥
IsEndOfRefusal (faults.Backward last) end = ⊥

-- what the plant is told by what came of a taking, and how the taking ends: the orders that it was
-- answered with, and nothing where it was refused
abbrev pub TellsPlant : CentreRows → Result Answer StepFault → SinkTold → SinkTold → OrdersTaken
    → Type 0
TellsPlant rows (Ok (answers.Orders orders)) before after end =
    WritesOrders rows orders before after end
TellsPlant rows (Ok (answers.Opened key)) before after end = ⊥
TellsPlant rows (Ok (answers.Reply reply)) before after end = ⊥
TellsPlant rows (Ok (answers.Reports reports)) before after end = ⊥
TellsPlant rows (Ok answers.Closed) before after end = ⊥
TellsPlant rows (Ok answers.Noted) before after end = ⊥
TellsPlant rows (Err fault) before after end = IsEndOfRefusal fault end × (after ≡ before)

-- what may come of a taking
abbrev pub IsOfOrders : Result Answer StepFault → Type 0
IsOfOrders (Ok (answers.Orders orders)) = Unit {0}
IsOfOrders (Ok (answers.Opened key)) = ⊥
IsOfOrders (Ok (answers.Reply reply)) = ⊥
IsOfOrders (Ok (answers.Reports reports)) = ⊥
IsOfOrders (Ok answers.Closed) = ⊥
IsOfOrders (Ok answers.Noted) = ⊥
IsOfOrders (Err fault) = (end : OrdersTaken) × IsEndOfRefusal fault end

-- from where it stands the seat asked the node for the orders that are left, and told the plant
pub record TakesOrders (setup : NodeSetup) (seat : NodeSeat) (front : NodeLog)
    (before after : SinkTold) (end : OrdersTaken) : Type 0 where
  pub outcome : Result Answer StepFault
  pub came : Came IsRightTurn setup seat TakeOrders outcome front
  pub told : TellsPlant setup.centre outcome before after end
