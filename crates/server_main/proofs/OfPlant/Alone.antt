-- Where one seat alone takes orders, it is given all that the plant has taken.
use Rattle.std.proofs.Common.{◌≡◌, ℕ, ◌==◌, Bool, true, false, List, [], ◌∷◌, ◌++◌, map}
use Rattle.std.proofs.Common.{Option, Some, None, refl, sym, ap, subst, ◌∙◌, append_assoc, eq-eqb}
use Rattle.std.specs.Prelude.{if◌then◌else◌}
use Rattle.std.proofs.lemmas.List.{append-nil}
use Rattle.std.proofs.lemmas.Grind.{flat_map-append}
use Rattle.bilateral.specs.Rows.{CentreRows}
use Rattle.sbo_device.specs.declared.key.Key.{Key}
use Rattle.sbo_device.specs.declared.order.Order.{Order}
use Rattle.tase_views.specs.declared.event.EventKind.{EventKind}
use Rattle.tase_views.specs.declared.event.EventKind.TheVariants as events
use Rattle.tase_views.specs.Moves.{Act, Move, acts, opens, takes, closes, sort_of}
use Rattle.tase_views.specs.Moves.{acts_of_call, moves_by, moves_of}
use Rattle.tase_views.specs.History.{Past, key_at}
use Rattle.tase_views.specs.OwnTables.{Owns, own_tables}
use Rattle.tase_views.specs.View.{moves_in}
use Rattle.tase_views.specs.Orders.{orders_of, orders_taken, orders_left}
use Rattle.tase_views.proofs.OrdersGiven.{taken_and_left}
use Rattle.share_turn.specs.Entries.{Keeps}
use Rattle.node_server.specs.Turn.Logged.{past_in}
use Rattle.node_server.specs.NodeCalls.{NodeLog}
use Rattle.texts.specs.Orders.PlantLines.{plant_line, plant_text}
use Rattle.server_main.specs.Plant.PlantHistory.{given_by, orders_given, AsksOrders, TakesAlone}
use Rattle.server_main.proofs.OfPlant.Given.{past-push, given-kept}

module _ (rows : CentreRows) (owns : Owns) where
  acts-take_none : (key : Key) (these : List Act) (before : List Move)
      → orders_taken rows owns (map (acts key) these ++ before) ≡ orders_taken rows owns before
  acts-take_none key [] before = refl
  acts-take_none key (act ∷ these) before = acts-take_none key these before

  by-take_none : (found : Option Key) (these : List Act) (before : List Move)
      → orders_taken rows owns (moves_by found these ++ before) ≡ orders_taken rows owns before
  by-take_none None these before = refl
  by-take_none (Some key) these before = acts-take_none key these before

  nothing : (b : Bool) (before after : List Order) → after ≡ before
      → before ++ (if b then [] else []) ≡ after
  nothing true before after same = append-nil before ∙ sym same
  nothing false before after same = append-nil before ∙ sym same

  -- what the plant has taken behind an event of a seat: what that seat is given is added, where it
  -- is the one that takes orders
  one_taken : (event : EventKind) (found : Option Key) (before : List Move) (b : Bool)
      → (AsksOrders (sort_of event) → b ≡ true)
      → orders_taken rows owns before
      ++ (if b then given_by (sort_of event) (orders_left rows owns before) else [])
      ≡ orders_taken rows owns (moves_of (sort_of event) found ++ before)
  one_taken (events.Open peer) found before b own =
      nothing b _ _ (by-take_none found (opens ∷ []) before)
  one_taken (events.Request call) found before b own =
      nothing b _ _ (by-take_none found (acts_of_call call) before)
  one_taken events.Take found before b own =
      nothing b _ _ (by-take_none found (takes ∷ []) before)
  one_taken events.Close found before b own =
      nothing b _ _ (by-take_none found (closes ∷ []) before)
  one_taken (events.Update point value) found before b own = nothing b _ _ refl
  one_taken (events.Table peer variant) found before b own = nothing b _ _ refl
  one_taken (events.Tag device tag) found before b own = nothing b _ _ refl
  one_taken (events.Tick now) found before b own = nothing b _ _ refl
  one_taken (events.Ask asker slot) found before b own = nothing b _ _ refl
  one_taken events.TakeOrders found before b own =
      ap (λ (b : Bool). orders_taken rows owns before
      ++ (if b then orders_left rows owns before else [])) (own tt)
      ∙ taken_and_left rows owns before
  one_taken events.Stop found before b own = nothing b _ _ refl

module _ (rows : CentreRows) (who : ℕ) where
  -- what the seat was given is all that the plant has taken
  AreTaken : NodeLog → Type 0
  AreTaken log = orders_given rows who (past_in log)
      ≡ orders_taken rows (own_tables rows) (moves_in (past_in log))

  are-more : (done : NodeLog) (e : ℕ × EventKind) → (AsksOrders (sort_of e.1) → e.0 ≡ who)
      → AreTaken done → AreTaken (done ++ e ∷ [])
  unfolding AreTaken
  are-more done e own are =
      let past = past_in done in
      let owns = own_tables rows in
      let b : Bool = e.0 == who in
      ap (orders_given rows who) (past-push done e)
      ∙ ap (λ (os : List Order). os
      ++ (if b then given_by (sort_of e.1) (orders_left rows owns (moves_in past)) else [])) are
      ∙ one_taken rows owns e.1 (key_at e.1 past e.0) (moves_in past) b
      (λ asks. eq-eqb e.0 who (own asks))
      ∙ sym (ap (λ (p : Past). orders_taken rows owns (moves_in p)) (past-push done e))

  are-all : (more done : NodeLog) → TakesAlone who more → AreTaken done → AreTaken (done ++ more)
  are-all [] done alone are = subst AreTaken (sym (append-nil done)) are
  are-all (e ∷ more) done alone are = subst AreTaken (append_assoc done (e ∷ []) more)
      (are-all more (done ++ e ∷ []) alone.1 (are-more done e alone.0 are))

  none-yet : AreTaken []
  unfolding AreTaken
  none-yet = refl

  given-all : (log : NodeLog) → TakesAlone who log → orders_given rows who (past_in log)
      ≡ orders_taken rows (own_tables rows) (moves_in (past_in log))
  unfolding AreTaken
  given-all log alone = are-all log [] alone none-yet

  pub told-once : (front log : NodeLog) → Keeps log (who, front) → TakesAlone who log
      → orders_given rows who (past_in front)
      ++ orders_left rows (own_tables rows) (moves_in (past_in log))
      ≡ orders_of rows (own_tables rows) (moves_in (past_in log))
  told-once front log keeps alone =
      ap (λ (os : List Order). os ++ orders_left rows (own_tables rows) (moves_in (past_in log)))
      (sym (given-kept rows who front log keeps) ∙ given-all log alone)
      ∙ taken_and_left rows (own_tables rows) (moves_in (past_in log))

  pub lines-once : (front log : NodeLog) → Keeps log (who, front) → TakesAlone who log
      → plant_text rows (orders_given rows who (past_in front))
      ++ plant_text rows (orders_left rows (own_tables rows) (moves_in (past_in log)))
      ≡ plant_text rows (orders_of rows (own_tables rows) (moves_in (past_in log)))
  lines-once front log keeps alone =
      sym (flat_map-append (plant_line rows) (orders_given rows who (past_in front))
      (orders_left rows (own_tables rows) (moves_in (past_in log))))
      ∙ ap (plant_text rows) (told-once front log keeps alone)
