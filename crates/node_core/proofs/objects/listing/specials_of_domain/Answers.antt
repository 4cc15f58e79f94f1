use Rattle.std.proofs.Common.{true, [], ◌∷◌, map, ap}
use Rattle.std.specs.Prelude.{codes}
use Rattle.tase_views.specs.NameLists.{is_after}
use Rattle.tase_views.specs.Objects.{report_variables}
use Rattle.node_core.proofs.OfObjects.Listed.{names_of, filtered_twice}
use Rattle.node_core.proofs.objects.listing.specials_of_domain.Goals as goal

pub returns : goal.returns
returns c = λ table.
    let test = is_after c.args.after.now in
    let id = codes "Bilateral_Table_ID" in
    let first = filtered_twice test [] (id ∷ []) _ _ (ap names_of c.new-names.ensures.items)
    c.in_ok-push_after.ensures in
    filtered_twice test (id ∷ []) (map (λ o. o.item) (report_variables true)) _ _
    first c.in_ok-push_report_variables.ensures
