use Rattle.std.proofs.Common.{ℕ, List, [], ◌∷◌, ◌++◌, take, filter, sym, ap}
use Rattle.std.proofs.Common.{◌∙◌, append-nil, take_all, arith}
use Rattle.std.proofs.lemmas.List.{take_more}
use Rattle.tase_views.specs.NameLists.{is_after}
use Rattle.node_core.proofs.OfObjects.Listed.{names_of, filtered_behind}
use Rattle.node_core.proofs.objects.listing.push_names.Goals as goal

pub loop-name-init : goal.loop-name-init
loop-name-init c = sym (append-nil (names_of c.args.names.now.items))

pub loop-name-preserved : goal.loop-name-preserved
loop-name-preserved c =
    let items = c.as_slice-name-items.result.now in
    let index = c.loop-name.name-index in
    let name = c.name-item.result in
    let old = names_of c.args.names.now.items in
    let test = is_after c.args.after.now in
    filtered_behind test old (take index items) (name ∷ []) _ _ c.loop-name.invariant
    (rw c.as_slice.ensures.value at c.in_ok-push_after.ensures)
    ∙ ap (λ (more : List (List ℕ)). old ++ filter test more)
    (ap (λ (n : List ℕ). take index items ++ n ∷ []) c.name-item.is
    ∙ sym (take_more items index name (omega arith)))

pub returns : goal.returns
returns c =
    c.loop-name.invariant
    ∙ ap (λ (more : List (List ℕ)). names_of c.args.names.now.items
    ++ filter (is_after c.args.after.now) more)
    (take_all c.loop-name.name-index c.as_slice-name-items.result.now (omega arith)
    ∙ c.as_slice-name-items.ensures)
