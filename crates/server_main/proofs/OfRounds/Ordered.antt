-- What one taking of orders does of a round.
use Rattle.std.proofs.Common.{◌≡◌, ℕ, Bool, false, List, [], ◌∷◌}
use Rattle.std.proofs.Common.{refl, sym, ap, ◌∙◌, subst, arith, Option}
use Rattle.std.proofs.Common.{Result, Ok, Err}
use Rattle.outside.specs.Faults.{counted}
use Rattle.outside.specs.Sink.{SinkTold}
use Rattle.bilateral.specs.Rows.{CentreRows}
use Rattle.sbo_device.specs.declared.order.Order.{Order}
use Rattle.tase_views.specs.declared.event.EventKind.TheVariants.{TakeOrders}
use Rattle.tase_views.specs.declared.fault.StepFault.{StepFault}
use Rattle.tase_views.specs.declared.fault.StepFault.TheVariants as faults
use Rattle.tase_views.specs.declared.reply.Answer.{Answer}
use Rattle.tase_views.specs.declared.reply.Answer.TheVariants as answers
use Rattle.share_turn.specs.Public.{at}
use Rattle.node_server.specs.NodeCalls.{NodeCall, NodeSeat, CallsNode}
use Rattle.server_main.specs.declared.plant.taking.OrdersTaken.{OrdersTaken}
use Rattle.server_main.specs.declared.plant.taking.OrdersTaken.TheVariants as takings
use Rattle.server_main.specs.Plant.Taking.{WritesOrders, IsEndOfRefusal, TellsPlant}
use Rattle.server_main.specs.Plant.PlantHistory.{HasPlantLines, HasThen}
use Rattle.server_main.specs.declared.run.serving.ServingEnd.{ServingEnd}
use Rattle.server_main.specs.Run.Gathering.{SharedNode}
use Rattle.server_main.specs.Run.Rounds.{TakesOrdersOnce, end_of_orders}
use Rattle.server_main.specs.Rounds.Rounds.{counted_up, AsksForOrders}
use Rattle.server_main.proofs.OfRounds.Accepted.{is_listener_end_so, is_plant_end_so, LastSo, PlantSo}
use Rattle.server_main.proofs.OfRounds.Accepted.{CountsSo}

-- the call that was refused so is the last one
abbrev asked : Result Answer StepFault → List NodeCall
asked outcome = record { event = TakeOrders; outcome = outcome } ∷ []

last_refused : (fault : StepFault) (how : OrdersTaken) → IsEndOfRefusal fault how
    → LastSo (end_of_orders how) (asked (Err fault))
last_refused (faults.Stopped place) how is =
    subst (λ (t : OrdersTaken). LastSo (end_of_orders t) (asked (Err (faults.Stopped place))))
    (sym is) ([], place, refl)
last_refused (faults.HistoryFull weight limit) how is =
    subst (λ (t : OrdersTaken). LastSo (end_of_orders t)
    (asked (Err (faults.HistoryFull weight limit)))) (sym is) ([], refl)
last_refused faults.Memory how is =
    subst (λ (t : OrdersTaken). LastSo (end_of_orders t) (asked (Err faults.Memory))) (sym is) tt
last_refused faults.NoAssociation how is = absurd is
last_refused faults.Already how is = absurd is
last_refused faults.UnknownName how is = absurd is
last_refused faults.ClockRange how is = absurd is
last_refused (faults.Backward last) how is = absurd is

no_fault_of : (fault : StepFault) (how : OrdersTaken) → IsEndOfRefusal fault how
    → is_plant_end_so (end_of_orders how) ≡ false
no_fault_of (faults.Stopped place) how is =
    ap (λ (t : OrdersTaken). is_plant_end_so (end_of_orders t)) is
no_fault_of (faults.HistoryFull weight limit) how is =
    ap (λ (t : OrdersTaken). is_plant_end_so (end_of_orders t)) is
no_fault_of faults.Memory how is =
    ap (λ (t : OrdersTaken). is_plant_end_so (end_of_orders t)) is
no_fault_of faults.NoAssociation how is = absurd is
no_fault_of faults.Already how is = absurd is
no_fault_of faults.UnknownName how is = absurd is
no_fault_of faults.ClockRange how is = absurd is
no_fault_of (faults.Backward last) how is = absurd is

module _ (rows : CentreRows) (before after : SinkTold) where
  -- what was answered was written
  last_written : (outcome : Result Answer StepFault) (orders : List Order) (how : OrdersTaken)
      → WritesOrders rows orders before after how
      → LastSo (end_of_orders how) (asked outcome)
      × (after.faults ≡ counted (is_plant_end_so (end_of_orders how)) before.faults)
  last_written outcome orders takings.Taken writes = (tt, writes.faults)
  last_written outcome orders takings.PlantFault writes = (tt, writes.1.faults)
  last_written outcome orders takings.Stopped writes = absurd writes
  last_written outcome orders (takings.Full weight limit) writes = absurd writes
  last_written outcome orders takings.Memory writes = absurd writes

  last_told : (outcome : Result Answer StepFault) (how : OrdersTaken)
      → TellsPlant rows outcome before after how
      → LastSo (end_of_orders how) (asked outcome)
      × (after.faults ≡ counted (is_plant_end_so (end_of_orders how)) before.faults)
  last_told (Ok (answers.Orders orders)) how tells =
      last_written (Ok (answers.Orders orders)) orders how tells
  last_told (Ok (answers.Opened key)) how tells = absurd tells
  last_told (Ok (answers.Reply reply)) how tells = absurd tells
  last_told (Ok (answers.Reports reports)) how tells = absurd tells
  last_told (Ok answers.Closed) how tells = absurd tells
  last_told (Ok answers.Noted) how tells = absurd tells
  last_told (Err fault) how tells = (
    last_refused fault how tells.0,
    ap (λ (s : SinkTold). s.faults) tells.1 ∙ ap (λ (b : Bool). counted b before.faults)
        (sym (no_fault_of fault how tells.0)),
  )

-- ---- however it ended

quiet_orders : (how : OrdersTaken) → is_listener_end_so (end_of_orders how) ≡ false
quiet_orders takings.Taken = refl
quiet_orders takings.PlantFault = refl
quiet_orders takings.Stopped = refl
quiet_orders (takings.Full weight limit) = refl
quiet_orders takings.Memory = refl

counts_orders : (how : OrdersTaken) (many before after : ℕ) → after ≡ counted_up many before
    → CountsSo (end_of_orders how) many before after
counts_orders takings.Taken many before after is = is
counts_orders takings.PlantFault many before after is = is
counts_orders takings.Stopped many before after is = is
counts_orders (takings.Full weight limit) many before after is = is
counts_orders takings.Memory many before after is = (many, is, omega arith, omega arith)

has_so : (how : OrdersTaken) (node : SharedNode) (seat : NodeSeat) (start now : SinkTold)
    → HasThen how node.setup.centre seat.number seat.front start now
    → PlantSo (end_of_orders how) node seat start now
has_so takings.Taken node seat start now has = has
has_so takings.PlantFault node seat start now has = has
has_so takings.Stopped node seat start now has = has
has_so (takings.Full weight limit) node seat start now has = has
has_so takings.Memory node seat start now has = has

-- ---- one taking

pub record OrdersDone (node : SharedNode) (seat later : NodeSeat) (before after : SinkTold)
    (end : Option ServingEnd) : Type 0 where
  pub call : NodeCall
  pub asks : AsksForOrders call
  pub made : CallsNode node.setup seat (call ∷ []) later.front
  pub same : later ≡ at seat later.front
  pub last : LastSo end (call ∷ [])
  pub quiet : is_listener_end_so end ≡ false
  pub counts : (many first last : ℕ) → last ≡ counted_up many first → CountsSo end many first last
  pub plant : (start : SinkTold)
      → HasPlantLines node.setup.centre seat.number seat.front start before
      → PlantSo end node later start after
  pub plant_faults : after.faults ≡ counted (is_plant_end_so end) before.faults

pub orders-done : (node : SharedNode) (seat later : NodeSeat) (before after : SinkTold)
    (end : Option ServingEnd) → TakesOrdersOnce node seat later before after end
    → OrdersDone node seat later before after end
orders-done node seat later before after end once =
    let told = last_told node.setup.centre before after once.takes.outcome once.taken
    once.takes.told in
    subst (λ (e : Option ServingEnd). OrdersDone node seat later before after e) (sym once.end_is)
    (record {
      call = record { event = TakeOrders; outcome = once.takes.outcome };
      asks = refl;
      made = (later.front, once.takes.came, refl);
      same = once.same;
      last = told.0;
      quiet = quiet_orders once.taken;
      counts = counts_orders once.taken;
      plant = λ start has. subst
          (λ (s : NodeSeat). PlantSo (end_of_orders once.taken) node s start after) (sym once.same)
          (has_so once.taken node (at seat later.front) start after (once.keeps start has));
      plant_faults = told.1;
    })
