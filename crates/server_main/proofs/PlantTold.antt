-- The plant has all orders of the history.
use Rattle.std.proofs.Common.{◌≡◌, ℕ, Bool, true, false, List, ◌++◌, sym, subst}
use Rattle.outside.specs.Faults.{counted}
use Rattle.outside.specs.Sink.{SinkTold, AppendsAll, AppendsPart}
use Rattle.outside.proofs.Writing.{Appends-append, AppendsPart-append, AppendsPart-front}
use Rattle.bilateral.specs.Rows.{CentreRows}
use Rattle.tase_views.specs.OwnTables.{own_tables}
use Rattle.tase_views.specs.View.{moves_in}
use Rattle.tase_views.specs.Orders.{orders_of}
use Rattle.node_server.specs.Turn.Logged.{past_in}
use Rattle.node_server.specs.NodeCalls.{NodeLog}
use Rattle.texts.specs.Orders.PlantLines.{plant_text}
use Rattle.server_main.specs.Plant.PlantHistory.{lines_given}
use Rattle.server_main.specs.ServedParts.{HasAllOrders}
use Rattle.server_main.specs.Working.{HasOwnLines}
use Rattle.server_main.specs.Gathered.{lines_left, TellsLeft}

abbrev pub all_lines : CentreRows → NodeLog → List ℕ
all_lines rows log = plant_text rows (orders_of rows (own_tables rows) (moves_in (past_in log)))

-- what the seat was given, and then what is left, is all
pub all-told : (before failed : Bool) (rows : CentreRows) (who : ℕ) (front log : NodeLog)
    (start mid last : SinkTold) → lines_given rows who front ++ lines_left rows log
    ≡ all_lines rows log → HasOwnLines before rows who front start mid
    → TellsLeft before rows log mid last failed → HasAllOrders rows log start last failed
all-told true failed rows who front log start mid last joined given left =
    subst (λ (b : Bool). HasAllOrders rows log start last b) (sym left.0)
    (subst (λ (s : SinkTold). AppendsPart start s (all_lines rows log) true) (sym left.1)
    (subst (λ (text : List ℕ). AppendsPart start mid text true) joined
    (AppendsPart-front start mid (lines_given rows who front) (lines_left rows log) true given)))
all-told false false rows who front log start mid last joined given left =
    subst (λ (text : List ℕ). AppendsAll start last text) joined
    (Appends-append start mid last (lines_given rows who front) (lines_left rows log) false given
    left)
all-told false true rows who front log start mid last joined given left =
    subst (λ (text : List ℕ). AppendsPart start last text true) joined
    (AppendsPart-append start mid last (lines_given rows who front) (lines_left rows log) true given
    left)

pub plant-counted : (failed : Bool) (rows : CentreRows) (log : NodeLog) (start last : SinkTold)
    → HasAllOrders rows log start last failed → last.faults ≡ counted failed start.faults
plant-counted false rows log start last has = has.faults
plant-counted true rows log start last has = has.1.faults

pub plant-named : (failed : Bool) (rows : CentreRows) (log : NodeLog) (start last : SinkTold)
    → HasAllOrders rows log start last failed → last.name ≡ start.name
plant-named false rows log start last has = has.name
plant-named true rows log start last has = has.1.name

pub failed-then : (before failed : Bool) (rows : CentreRows) (log : NodeLog) (mid last : SinkTold)
    → TellsLeft before rows log mid last failed → before ≡ true → failed ≡ true
failed-then true failed rows log mid last left loud = left.0
failed-then false failed rows log mid last left loud = absurd cc
