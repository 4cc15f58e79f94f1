use Rattle.std.proofs.Common.{◌≡◌, ℕ, List, true, false, map, filter, sym, ap, ◌∙◌, subst}
use Rattle.std.specs.Prelude.{IfOk}
use Rattle.tase_views.specs.OwnTables.{is_scope_of}
use Rattle.tase_views.specs.NameLists.{is_after}
use Rattle.node_core.proofs.OfObjects.OwnObjects.{specials_in-device, specials_in-domain}
use Rattle.node_core.proofs.OfObjects.OwnObjects.{specials_in-nowhere}
use Rattle.node_core.proofs.objects.listing.specials.Goals as goal

pub returns-then-is_found_in : goal.returns-then-is_found_in
returns-then-is_found_in c = λ table same.
    let here : is_scope_of table c.args.scope.now true ≡ true =
    sym (c.is_found_in.ensures table same) ∙ c.if-is_found_in.true in
    subst (λ (listed : List (List ℕ)). IfOk c.specials_of_device.result (λ names.
    map (λ name. name.now) names.items ≡ filter (is_after c.args.after.now) listed))
    (sym (specials_in-device table c.args.scope.now here)) (c.specials_of_device.ensures table)

pub returns-then-is_found_in-2 : goal.returns-then-is_found_in-2
returns-then-is_found_in-2 c = λ table same.
    let here : is_scope_of table c.args.scope.now false ≡ true =
    sym (c.is_found_in-2.ensures table same) ∙ c.if-is_found_in-2.true in
    subst (λ (listed : List (List ℕ)). IfOk c.specials_of_domain.result (λ names.
    map (λ name. name.now) names.items ≡ filter (is_after c.args.after.now) listed))
    (sym (specials_in-domain table c.args.scope.now here)) (c.specials_of_domain.ensures table)

pub returns : goal.returns
returns c = λ table same.
    let apart : is_scope_of table c.args.scope.now true ≡ false =
    sym (c.is_found_in.ensures table same) ∙ c.if-is_found_in.false in
    let away : is_scope_of table c.args.scope.now false ≡ false =
    sym (c.is_found_in-2.ensures table same) ∙ c.if-is_found_in-2.false in
    rw (c.new.ensures.items)
    (ap (filter (is_after c.args.after.now))
    (sym (specials_in-nowhere table c.args.scope.now apart away)))
