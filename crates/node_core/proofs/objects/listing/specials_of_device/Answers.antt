use Rattle.std.proofs.Common.{true, [], ◌∷◌, map, ap}
use Rattle.std.specs.Prelude.{codes}
use Rattle.tase_views.specs.NameLists.{is_after}
use Rattle.tase_views.specs.Objects.{report_variables}
use Rattle.node_core.proofs.OfObjects.Listed.{names_of, filtered_twice}
use Rattle.node_core.proofs.objects.listing.specials_of_device.Goals as goal

pub returns : goal.returns
returns c = λ table.
    let test = is_after c.args.after.now in
    let version = codes "TASE2_Version" in
    let features = codes "Supported_Features" in
    let first = filtered_twice test [] (version ∷ []) _ _ (ap names_of c.new-names.ensures.items)
    c.in_ok-push_after.ensures in
    let second = filtered_twice test (version ∷ []) (features ∷ []) _ _ first
    c.in_ok-push_after-2.ensures in
    filtered_twice test (version ∷ features ∷ []) (map (λ o. o.item) (report_variables true)) _ _
    second c.in_ok-push_report_variables.ensures
