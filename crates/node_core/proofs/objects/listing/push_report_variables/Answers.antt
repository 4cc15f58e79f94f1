use Rattle.std.proofs.Common.{[], ◌∷◌, map}
use Rattle.std.specs.Prelude.{codes}
use Rattle.tase_views.specs.NameLists.{is_after}
use Rattle.node_core.proofs.OfObjects.Listed.{filtered_behind}
use Rattle.node_core.proofs.objects.listing.push_report_variables.Goals as goal

pub returns : goal.returns
returns c =
    let test = is_after c.args.after.now in
    let old = map (λ name. name.now) c.args.names.now.items in
    let set = codes "Transfer_Set_Name" in
    let time = codes "Transfer_Set_Time_Stamp" in
    let conditions = codes "DSConditions_Detected" in
    let event = codes "Event_Code_Detected" in
    let second = filtered_behind test old (set ∷ []) (time ∷ []) _ _ c.in_ok-push_after.ensures
    c.in_ok-push_after-2.ensures in
    let third = filtered_behind test old (set ∷ time ∷ []) (conditions ∷ []) _ _ second
    c.in_ok-push_after-3.ensures in
    filtered_behind test old (set ∷ time ∷ conditions ∷ []) (event ∷ []) _ _ third
    c.in_ok-push_after-4.ensures
