-- What a plant has of the orders of a history.
use Rattle.std.specs.Prelude.{◌≡◌, ℕ, ◌==◌, if◌then◌else◌, true, List, [], ◌∷◌, ◌++◌}
use Rattle.outside.specs.Sink.{SinkTold, AppendsAll, AppendsPart}
use Rattle.bilateral.specs.Rows.{CentreRows}
use Rattle.sbo_device.specs.declared.order.Order.{Order}
use Rattle.tase_views.specs.declared.event.Entry.{Entry}
use Rattle.tase_views.specs.Moves.{EventSort, taking_orders, sort_of}
use Rattle.tase_views.specs.History.{Past}
use Rattle.tase_views.specs.OwnTables.{own_tables}
use Rattle.tase_views.specs.View.{moves_in}
use Rattle.tase_views.specs.Orders.{orders_left}
use Rattle.share_turn.specs.Entries.{Each}
use Rattle.node_server.specs.Turn.Logged.{past_in}
use Rattle.node_server.specs.NodeCalls.{NodeLog}
use Rattle.texts.specs.Orders.PlantLines.{plant_text}
use Rattle.server_main.specs.declared.plant.taking.OrdersTaken.{OrdersTaken}
use Rattle.server_main.specs.declared.plant.taking.OrdersTaken.TheVariants.{Taken, PlantFault, Stopped}
use Rattle.server_main.specs.declared.plant.taking.OrdersTaken.TheVariants.{Full, Memory}

-- these orders where an event takes them
abbrev pub given_by : EventSort → List Order → List Order
given_by taking_orders left = left
given_by _ left = []

-- what a seat is given at an entry over the history before it: where it takes orders, those that
-- are left then
abbrev pub given_at : CentreRows → ℕ → Entry → Past → List Order
given_at rows who entry past =
    if entry.who == who
    then given_by (sort_of entry.event) (orders_left rows (own_tables rows) (moves_in past))
    else []

-- all orders that a seat was given over a history, in order
abbrev pub orders_given : CentreRows → ℕ → Past → List Order
orders_given rows who [] = []
orders_given rows who (entry ∷ past) = orders_given rows who past ++ given_at rows who entry past

-- their lines
abbrev pub lines_given : CentreRows → ℕ → NodeLog → List ℕ
lines_given rows who front = plant_text rows (orders_given rows who (past_in front))

-- the plant has grown by the lines of all orders that a seat was given over what it has seen
abbrev pub HasPlantLines : CentreRows → ℕ → NodeLog → SinkTold → SinkTold → Type 0
HasPlantLines rows who front start now = AppendsAll start now (lines_given rows who front)

-- the same behind a taking; by a front part of these lines where a write failed
abbrev pub HasThen : OrdersTaken → CentreRows → ℕ → NodeLog → SinkTold → SinkTold → Type 0
HasThen Taken rows who front start now = HasPlantLines rows who front start now
HasThen PlantFault rows who front start now =
    AppendsPart start now (lines_given rows who front) true
HasThen Stopped rows who front start now = HasPlantLines rows who front start now
HasThen (Full weight limit) rows who front start now = HasPlantLines rows who front start now
HasThen Memory rows who front start now = HasPlantLines rows who front start now

-- an event takes orders
abbrev pub AsksOrders : EventSort → Type 0
AsksOrders taking_orders = Unit {0}
AsksOrders _ = ⊥

-- no seat but this one takes orders
abbrev pub TakesAlone : ℕ → NodeLog → Type 0
TakesAlone who log = Each (λ e. AsksOrders (sort_of e.1) → e.0 ≡ who) log
