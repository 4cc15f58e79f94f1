-- What a plant has behind a taking of orders.
use Rattle.std.proofs.Common.{◌≡◌, ℕ, true, false, List, ◌++◌, sym, ap, subst, ◌∙◌}
use Rattle.std.proofs.Common.{Result, Ok, Err}
use Rattle.std.proofs.lemmas.List.{append-nil}
use Rattle.std.proofs.lemmas.Grind.{flat_map-append}
use Rattle.outside.specs.Sink.{SinkTold, AppendsAll, AppendsPart}
use Rattle.outside.proofs.Writing.{Appends-append, AppendsPart-append}
use Rattle.bilateral.specs.Rows.{CentreRows}
use Rattle.sbo_device.specs.declared.order.Order.{Order}
use Rattle.tase_views.specs.declared.event.EventKind.TheVariants.{TakeOrders}
use Rattle.tase_views.specs.declared.fault.StepFault.{StepFault}
use Rattle.tase_views.specs.declared.fault.StepFault.TheVariants as faults
use Rattle.tase_views.specs.declared.reply.Answer.{Answer}
use Rattle.tase_views.specs.declared.reply.Answer.TheVariants as answers
use Rattle.share_turn.specs.Public.{Came}
use Rattle.node_server.specs.declared.turn.turn_node.NodeSetup.{NodeSetup}
use Rattle.node_server.specs.Turn.Logged.{past_in, IsRightTurn}
use Rattle.node_server.specs.NodeCalls.{NodeLog, NodeSeat}
use Rattle.texts.specs.Orders.PlantLines.{plant_line, plant_text}
use Rattle.server_main.specs.declared.plant.taking.OrdersTaken.{OrdersTaken}
use Rattle.server_main.specs.declared.plant.taking.OrdersTaken.TheVariants.{Taken, PlantFault, Stopped}
use Rattle.server_main.specs.declared.plant.taking.OrdersTaken.TheVariants.{Full, Memory}
use Rattle.server_main.specs.Plant.Taking.{WritesOrders, IsEndOfRefusal, TellsPlant, IsOfOrders}
use Rattle.server_main.specs.Plant.PlantHistory.{orders_given, lines_given, HasPlantLines, HasThen}
use Rattle.server_main.proofs.OfPlant.Given.{given-kept, given-taken}
use Rattle.server_main.proofs.OfPlant.OrdersRefused.{of-orders, orders-answered}

pub call-of_orders : (setup : NodeSetup) (seat : NodeSeat) (outcome : Result Answer StepFault)
    (front : NodeLog) → Came IsRightTurn setup seat TakeOrders outcome front → IsOfOrders outcome
call-of_orders setup seat outcome front came =
    of-orders (record { centre = setup.centre; limit = setup.limit }) (past_in came.0) seat.number
    outcome came.2

-- the lines of what was given and of what was told
wrote : (rows : CentreRows) (given orders : List Order) (who : ℕ) (front : NodeLog)
    (start before after : SinkTold) (end : OrdersTaken)
    → given ++ orders ≡ orders_given rows who (past_in front)
    → AppendsAll start before (plant_text rows given)
    → WritesOrders rows orders before after end → HasThen end rows who front start after
wrote rows given orders who front start before after Taken joined has writes =
    subst (λ (text : List ℕ). AppendsAll start after text)
    (sym (flat_map-append (plant_line rows) given orders) ∙ ap (plant_text rows) joined)
    (Appends-append start before after (plant_text rows given) (plant_text rows orders) false has
    writes)
wrote rows given orders who front start before after PlantFault joined has writes =
    subst (λ (text : List ℕ). AppendsPart start after text true)
    (sym (flat_map-append (plant_line rows) given orders) ∙ ap (plant_text rows) joined)
    (AppendsPart-append start before after (plant_text rows given) (plant_text rows orders) true has
    writes)
wrote rows given orders who front start before after Stopped joined has writes = absurd writes
wrote rows given orders who front start before after (Full weight limit) joined has writes =
    absurd writes
wrote rows given orders who front start before after Memory joined has writes = absurd writes

-- no refusal is a fault of the plant
no_fault : (fault : StepFault) → IsEndOfRefusal fault PlantFault → ⊥
no_fault (faults.Stopped place) ends = absurd cc
no_fault (faults.HistoryFull weight limit) ends = absurd cc
no_fault faults.Memory ends = absurd cc
no_fault faults.NoAssociation ends = ends
no_fault faults.Already ends = ends
no_fault faults.UnknownName ends = ends
no_fault faults.ClockRange ends = ends
no_fault (faults.Backward last) ends = ends

-- the plant has what it had
had : (fault : StepFault) (rows : CentreRows) (who : ℕ) (front : NodeLog) (start now : SinkTold)
    (end : OrdersTaken) → IsEndOfRefusal fault end → HasPlantLines rows who front start now
    → HasThen end rows who front start now
had fault rows who front start now Taken ends has = has
had fault rows who front start now PlantFault ends has = absurd (no_fault fault ends)
had fault rows who front start now Stopped ends has = has
had fault rows who front start now (Full weight limit) ends has = has
had fault rows who front start now Memory ends has = has

pub lines-kept : (setup : NodeSetup) (seat : NodeSeat) (outcome : Result Answer StepFault)
    (front : NodeLog) (start before after : SinkTold) (end : OrdersTaken)
    → Came IsRightTurn setup seat TakeOrders outcome front
    → TellsPlant setup.centre outcome before after end
    → HasPlantLines setup.centre seat.number seat.front start before
    → HasThen end setup.centre seat.number front start after
lines-kept setup seat (Ok (answers.Orders orders)) front start before after end came tells has =
    let rows = setup.centre in
    let who = seat.number in
    let past = came.0 in
    let same = given-kept rows who seat.front past came.1 in
    let are = orders-answered (record { centre = setup.centre; limit = setup.limit })
    (past_in past) who orders came.2 in
    wrote rows (orders_given rows who (past_in seat.front)) orders who front start before
    after end
    (ap (λ (os : List Order). os ++ orders) (sym same)
    ∙ ap (λ (os : List Order). orders_given rows who (past_in past) ++ os) are
    ∙ sym (given-taken rows who past)
    ∙ sym (ap (λ (l : NodeLog). orders_given rows who (past_in l)) came.3))
    has tells
lines-kept setup seat (Ok (answers.Opened key)) front start before after end came tells has =
    absurd tells
lines-kept setup seat (Ok (answers.Reply reply)) front start before after end came tells has =
    absurd tells
lines-kept setup seat (Ok (answers.Reports reports)) front start before after end came tells has =
    absurd tells
lines-kept setup seat (Ok answers.Closed) front start before after end came tells has =
    absurd tells
lines-kept setup seat (Ok answers.Noted) front start before after end came tells has =
    absurd tells
lines-kept setup seat (Err fault) front start before after end came tells has =
    let rows = setup.centre in
    let who = seat.number in
    let past = came.0 in
    let same : orders_given rows who (past_in front) ≡ orders_given rows who (past_in seat.front) =
    ap (λ (l : NodeLog). orders_given rows who (past_in l)) (came.3 ∙ append-nil past)
    ∙ given-kept rows who seat.front past came.1 in
    had fault rows who front start after end tells.0
    (subst (λ (now : SinkTold). AppendsAll start now (lines_given rows who front)) (sym tells.1)
    (subst (λ (os : List Order). AppendsAll start before (plant_text rows os)) (sym same) has))
