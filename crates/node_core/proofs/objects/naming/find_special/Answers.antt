use Rattle.std.proofs.Common.{◌≡◌, true, false, sym, ◌∙◌}
use Rattle.tase_views.specs.OwnTables.{is_scope_of}
use Rattle.node_core.proofs.OfObjects.OwnObjects.{special_at-device, special_at-domain}
use Rattle.node_core.proofs.OfObjects.OwnObjects.{special_at-nowhere}
use Rattle.node_core.proofs.objects.naming.find_special.Goals as goal

pub returns-then-is_found_in : goal.returns-then-is_found_in
returns-then-is_found_in c = λ table same.
    let name = c.args.name.now in
    let item : c.as_slice-item.result.now ≡ name.item =
    c.as_slice-item.ensures.value ∙ c.item.ensures.value in
    let here : is_scope_of table name.scope true ≡ true =
    rw (← c.scope.ensures.value) (sym (c.is_found_in.ensures table same) ∙ c.if-is_found_in.true) in
    special_at-device table name.scope name.item _ here
    (rw item at (c.special_of_device.ensures table))

pub returns-then-is_found_in-2 : goal.returns-then-is_found_in-2
returns-then-is_found_in-2 c = λ table same.
    let name = c.args.name.now in
    let item : c.as_slice-item.result.now ≡ name.item =
    c.as_slice-item.ensures.value ∙ c.item.ensures.value in
    let here : is_scope_of table name.scope false ≡ true =
    rw (← c.scope-2.ensures.value)
    (sym (c.is_found_in-2.ensures table same) ∙ c.if-is_found_in-2.true) in
    special_at-domain table name.scope name.item _ here
    (rw item at (c.special_of_domain.ensures table))

pub returns : goal.returns
returns c = λ table same.
    let name = c.args.name.now in
    let apart : is_scope_of table name.scope true ≡ false =
    rw (← c.scope.ensures.value) (sym (c.is_found_in.ensures table same) ∙ c.if-is_found_in.false)
    in
    let away : is_scope_of table name.scope false ≡ false =
    rw (← c.scope-2.ensures.value)
    (sym (c.is_found_in-2.ensures table same) ∙ c.if-is_found_in-2.false) in
    special_at-nowhere table name.scope name.item apart away
