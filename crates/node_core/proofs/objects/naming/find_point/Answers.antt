use Rattle.std.proofs.Common.{◌≡◌, Some, None, sym, ap, ◌∙◌}
use Rattle.bilateral.specs.declared.rows.Table.{Table}
use Rattle.tase_views.specs.OwnTables.{own_point, is_scope_of}
use Rattle.node_core.specs.Objects.Found.{offered, point_named}
use Rattle.node_core.proofs.OfObjects.Names.{point_named-row, row_if}
use Rattle.node_core.proofs.objects.naming.find_point.Goals as goal

pub returns-in_err-see-clause-named : goal.returns-in_err-see-clause-named
returns-in_err-see-clause-named c =
    let item : c.as_slice.result.now ≡ c.args.name.now.item =
    c.as_slice.ensures.value ∙ c.item.ensures.value in
    rw c.from_residual.ensures
    (sym (point_named-row c.args.table.now c.table-own.ensures.centre c.table-own.ensures.lawful
    c.args.name.now None (rw item at c.in_err-see.ensures.named)))

pub returns-clause-named : goal.returns-clause-named
returns-clause-named c =
    let t = c.args.table.now in
    let see = c.in_ok-see.see.now in
    let item : c.as_slice.result.now ≡ c.args.name.now.item =
    c.as_slice.ensures.value ∙ c.item.ensures.value in
    let scope : c.is_found_in.result ≡ is_scope_of (offered t) c.args.name.now.scope see.vmd =
    rw (← c.scope.ensures.value) (c.is_found_in.ensures (offered t)
    (ap (λ (x : Table). x.domain) (sym c.table-own.ensures.table))) in
    rw c.then_some.ensures (row_if c.is_found_in.result _ (point_named (offered t) c.args.name.now)
    (own_point t.rows)
    (rw scope (point_named-row t c.table-own.ensures.centre c.table-own.ensures.lawful
    c.args.name.now (Some see) (rw item at c.in_ok-see.ensures.named))))
