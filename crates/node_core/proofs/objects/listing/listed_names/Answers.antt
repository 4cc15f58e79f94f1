use Rattle.std.proofs.Common.{◌≡◌, ℕ, List, [], ◌∷◌, map, None, refl, sym, ap, ◌∙◌, subst}
use Rattle.std.specs.Prelude.{filter, IfOk}
use Rattle.std.specs.List.{All}
use Rattle.mms_data.specs.ObjectName.{IsIdentifier}
use Rattle.tase_views.specs.Objects.{objects}
use Rattle.tase_views.specs.NameLists.{is_after, in_order, variables_in}
use Rattle.node_core.specs.Objects.Found.{offered}
use Rattle.node_core.proofs.OfObjects.Listed.{names_of, variables-named}
use Rattle.node_core.proofs.objects.listing.listed_names.Goals as goal

-- each name is in a list that goes on after none
all_listed : (names : List (List ℕ)) → filter (is_after None) names ≡ names
all_listed [] = refl
all_listed (name ∷ names) = ap (λ (ns : List (List ℕ)). name ∷ ns) (all_listed names)

pub in_order-requires : goal.in_order-requires
in_order-requires c =
    subst (λ (names : List (List ℕ)). All IsIdentifier names)
    (sym (ap (map (λ name. name.now)) c.as_mut_slice.ensures.value ∙ c.in_ok-names.ensures))
    (variables-named c.args.table.now c.args.scope.now None c.table-lawful.ensures.centre
    c.table-lawful.ensures.lawful c.table-lawful.ensures.controls)

pub returns-clause-value : goal.returns-clause-value
returns-clause-value c =
    let t = offered c.args.table.now in
    let names : names_of c.as_mut_slice.result.now ≡ variables_in t (objects t) c.args.scope.now =
    ap (map (λ name. name.now)) c.as_mut_slice.ensures.value ∙ c.in_ok-names.ensures
    ∙ all_listed (variables_in t (objects t) c.args.scope.now) in
    subst (λ (ns : List (List ℕ)). IfOk c.in_order.result (λ ordered. ordered ≡ in_order ns))
    names c.in_order.ensures.value
