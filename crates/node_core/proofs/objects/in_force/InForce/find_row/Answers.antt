use Rattle.std.proofs.Common.{◌≡◌, List, get_or, sym, ap, ◌∙◌}
use Rattle.bilateral.specs.declared.rows.See.{See}
use Rattle.bilateral.specs.declared.rows.Table.{Table}
use Rattle.node_core.specs.Objects.Found.{TableInForce, table_at}
use Rattle.node_core.proofs.OfObjects.Known.{variant_is_lawful}
use Rattle.node_core.proofs.OfObjects.Names.{row_named-no_point, row_named-no_row, row_named-row}
use Rattle.node_core.proofs.OfObjects.Names.{row_is_named}
use Rattle.node_core.proofs.objects.in_force.InForce.find_row.Goals as goal

pub returns-in_err-point-clause-named : goal.returns-in_err-point-clause-named
returns-in_err-point-clause-named c =
    let at = c.self.inside in
    let own = variant_is_lawful at.centre.now at.peer at.variant c.self.invariant in
    rw (c.from_residual.ensures, ← c.self.view_is)
    (sym (row_named-no_point (table_at at.centre.now at.peer at.variant) c.self.invariant.lawful own
    c.args.name.now (sym c.in_err-point.ensures)))

pub returns-in_err-place-clause-named : goal.returns-in_err-place-clause-named
returns-in_err-place-clause-named c =
    let at = c.self.inside in
    let own = variant_is_lawful at.centre.now at.peer at.variant c.self.invariant in
    rw (c.from_residual-in_err-place.ensures, ← c.self.view_is)
    (sym (row_named-no_row (table_at at.centre.now at.peer at.variant) c.self.invariant.lawful own
    c.args.name.now c.in_ok-point.point (sym c.in_ok-point.ensures) (sym c.in_err-place.ensures)))

pub returns-clause-named : goal.returns-clause-named
returns-clause-named c =
    let at = c.self.inside in
    let t = table_at at.centre.now at.peer at.variant in
    let own = variant_is_lawful at.centre.now at.peer at.variant c.self.invariant in
    let see = c.index-as_slice-place.result in
    let sees : c.as_slice.result.now ≡ t.table.sees =
    c.as_slice.ensures ∙ ap (λ (x : Table). x.sees) (c.table.ensures.table
    ∙ ap (λ (f : TableInForce). f.table) (sym c.self.view_is)) in
    rw (← c.self.view_is)
    (sym (row_named-row t c.self.invariant.lawful own c.args.name.now c.in_ok-point.point
    c.in_ok-place.place see (sym c.in_ok-point.ensures) (sym c.in_ok-place.ensures)
    (c.index-as_slice-place.is
    ∙ ap (λ (those : List See). get_or those c.in_ok-place.place see) sees)))

pub returns-clause-there : goal.returns-clause-there
returns-clause-there c =
    let at = c.self.inside in
    let t = table_at at.centre.now at.peer at.variant in
    let see = c.index-as_slice-place.result in
    let sees : c.as_slice.result.now ≡ t.table.sees =
    c.as_slice.ensures ∙ ap (λ (x : Table). x.sees) (c.table.ensures.table
    ∙ ap (λ (f : TableInForce). f.table) (sym c.self.view_is)) in
    rw (← c.self.view_is)
    (row_is_named t.table c.in_ok-point.point c.in_ok-place.place see (sym c.in_ok-place.ensures)
    (c.index-as_slice-place.is
    ∙ ap (λ (those : List See). get_or those c.in_ok-place.place see) sees))
