-- What may come of a taking of orders.
use Rattle.std.proofs.Common.{◌≡◌, ℕ, Bool, true, false, List, [], ◌∷◌, refl, sym, ap, subst}
use Rattle.std.proofs.Common.{Option, Some, None, Result, Ok, Err}
use Rattle.std.specs.Prelude.{if◌then◌else◌, option_map}
use Rattle.sbo_device.specs.declared.order.Order.{Order}
use Rattle.tase_views.specs.declared.event.EventKind.TheVariants.{TakeOrders}
use Rattle.tase_views.specs.declared.fault.StepFault.{StepFault}
use Rattle.tase_views.specs.declared.fault.StepFault.TheVariants.{Memory, Stopped, HistoryFull}
use Rattle.tase_views.specs.declared.fault.StepFault.TheVariants.{NoAssociation, Already}
use Rattle.tase_views.specs.declared.fault.StepFault.TheVariants.{UnknownName, ClockRange, Backward}
use Rattle.tase_views.specs.declared.reply.Answer.{Answer}
use Rattle.tase_views.specs.declared.reply.Answer.TheVariants as answers
use Rattle.tase_views.specs.Setup.{Setup}
use Rattle.tase_views.specs.History.{Past, stop_in}
use Rattle.tase_views.specs.OwnTables.{own_tables}
use Rattle.tase_views.specs.View.{moves_in}
use Rattle.tase_views.specs.Orders.{orders_left}
use Rattle.tase_views.specs.Outcomes.{refusal_of, first_refusal, IsRightOutcome, weight_refusal}
use Rattle.server_main.specs.declared.plant.taking.OrdersTaken.TheVariants as ends
use Rattle.server_main.specs.Plant.Taking.{IsOfOrders}

some_same : {X : Type 0} (a b : X) → Some a ≡ Some b → a ≡ b
some_same a b e = cc

-- the orders of an answer
abbrev orders_in : Answer → List Order
orders_in (answers.Orders orders) = orders
orders_in _ = []

module _ (setup : Setup) (past : Past) (who : ℕ) where
  refused : (fault : StepFault) → refusal_of setup past who TakeOrders ≡ Some fault
      → IsOfOrders (Err fault)
  refused fault is = by (stop_in past) is
    where
      weighed : (b : Bool) (heavy : ℕ)
          → first_refusal ((if b then Some (HistoryFull heavy setup.limit) else None) ∷ [])
          ≡ Some fault → IsOfOrders (Err fault)
      weighed true heavy e = subst (λ (f : StepFault). IsOfOrders (Err f))
          (some_same (HistoryFull heavy setup.limit) fault e) (ends.Full heavy setup.limit, refl)
      weighed false heavy e = absurd cc

      by : (s : Option ℕ)
          → first_refusal (option_map (λ place. Stopped place) s ∷ None ∷ None ∷ None
          ∷ weight_refusal setup past TakeOrders ∷ []) ≡ Some fault → IsOfOrders (Err fault)
      by None e = weighed _ _ e
      by (Some place) e = subst (λ (f : StepFault). IsOfOrders (Err f))
          (some_same (Stopped place) fault e) (ends.Stopped, refl)

  -- a right outcome is one of a taking
  pub of-orders : (outcome : Result Answer StepFault)
      → IsRightOutcome setup past who TakeOrders outcome → IsOfOrders outcome
  of-orders (Ok answer) right = subst (λ (a : Answer). IsOfOrders (Ok a)) (sym right.1) tt
  of-orders (Err Memory) right = (ends.Memory, refl)
  of-orders (Err (Stopped place)) right = (ends.Stopped, refl)
  of-orders (Err (HistoryFull weight limit)) right = (ends.Full weight limit, refl)
  of-orders (Err NoAssociation) right = refused NoAssociation right
  of-orders (Err Already) right = refused Already right
  of-orders (Err UnknownName) right = refused UnknownName right
  of-orders (Err ClockRange) right = refused ClockRange right
  of-orders (Err (Backward last)) right = refused (Backward last) right

  -- the orders that are answered are those left
  pub orders-answered : (orders : List Order)
      → IsRightOutcome setup past who TakeOrders (Ok (answers.Orders orders))
      → orders ≡ orders_left setup.centre (own_tables setup.centre) (moves_in past)
  orders-answered orders right = ap orders_in right.1
