-- The orders that are left are told to the plant.
use Rattle.std.proofs.Common.{◌≡◌, ℕ, Bool, true, false, List, [], ◌∷◌, map, reverse, refl, sym, ap}
use Rattle.std.proofs.Common.{subst, ◌∙◌}
use Rattle.outside.specs.Sink.{SinkTold, AppendsAll, AppendsPart}
use Rattle.bilateral.specs.Rows.{CentreRows}
use Rattle.sbo_device.specs.declared.order.Order.{Order}
use Rattle.tase_views.specs.declared.event.Entry.{Entry}
use Rattle.tase_views.specs.History.{Past}
use Rattle.tase_views.specs.OwnTables.{own_tables}
use Rattle.tase_views.specs.View.{moves_in}
use Rattle.tase_views.specs.Orders.{orders_left}
use Rattle.node_server.specs.Turn.Logged.{turn_log, logged_entry}
use Rattle.texts.specs.Orders.PlantLines.{plant_text}
use Rattle.server_main.specs.Gathered.{lines_left, TellsLeft}

paired_back : (history : List Entry) → map logged_entry (turn_log history) ≡ history
paired_back [] = refl
paired_back (e ∷ history) = ap (λ (l : List Entry). e ∷ l) (paired_back history)

text-left : (rows own : CentreRows) (history : List Entry) (orders : List Order) → own ≡ rows
    → orders ≡ orders_left own (own_tables own) (moves_in (reverse history))
    → plant_text rows orders ≡ lines_left rows (turn_log history)
text-left rows own history orders same are = ap (plant_text rows) (are
    ∙ ap (λ (r : CentreRows). orders_left r (own_tables r) (moves_in (reverse history))) same
    ∙ ap (λ (p : Past). orders_left rows (own_tables rows) (moves_in p))
    (sym (ap reverse (paired_back history))))

pub left-told : (rows own : CentreRows) (history : List Entry) (orders : List Order) (failed : Bool)
    (before after : SinkTold) → own ≡ rows
    → orders ≡ orders_left own (own_tables own) (moves_in (reverse history)) → failed ≡ false
    → AppendsAll before after (plant_text rows orders)
    → TellsLeft failed rows (turn_log history) before after false
left-told rows own history orders failed before after same are not all =
    subst (λ (b : Bool). TellsLeft b rows (turn_log history) before after false) (sym not)
    (subst (λ (text : List ℕ). AppendsAll before after text)
    (text-left rows own history orders same are) all)

pub left-broken : (rows own : CentreRows) (history : List Entry) (orders : List Order)
    (failed : Bool) (before after : SinkTold) → own ≡ rows
    → orders ≡ orders_left own (own_tables own) (moves_in (reverse history)) → failed ≡ false
    → AppendsPart before after (plant_text rows orders) true
    → TellsLeft failed rows (turn_log history) before after true
left-broken rows own history orders failed before after same are not part =
    subst (λ (b : Bool). TellsLeft b rows (turn_log history) before after true) (sym not)
    (subst (λ (text : List ℕ). AppendsPart before after text true)
    (text-left rows own history orders same are) part)
