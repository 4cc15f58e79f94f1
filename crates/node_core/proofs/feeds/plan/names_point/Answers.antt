use Rattle.std.proofs.Common.{not, bytes_eq, List, ℕ, Some, refl, sym, ap, ap₂, ◌∙◌}
use Rattle.bilateral.specs.Rows.{point_of}
use Rattle.bilateral.specs.declared.rows.PointRow.{PointRow}
use Rattle.tase_views.specs.OwnTables.{own_point}
use Rattle.tase_views.specs.Objects.{object_named}
use Rattle.node_core.specs.declared.objects.naming.Found.{Found}
use Rattle.node_core.specs.Objects.Found.{offered, object_found}
use Rattle.node_core.proofs.OfFeeds.Planned.{other_item, same_item}
use Rattle.node_core.proofs.feeds.plan.names_point.Goals as goal

pub returns-then-ne : goal.returns-then-ne
returns-then-ne c =
    let t = c.args.table.now in
    let compared = ap₂ (λ (a b : List ℕ). not (bytes_eq a b)) (sym c.item.ensures.value)
    (ap (λ (row : PointRow). row.name) (sym c.point.ensures)) in
    sym (other_item (offered t) c.args.name.now (point_of t.rows c.args.point).name
    (object_named (offered t) c.args.name.now) refl
    (compared ∙ sym c.ne.ensures ∙ c.if-ne.true))

pub returns-in-Some-Point : goal.returns-in-Some-Point
returns-in-Some-Point c =
    let t = c.args.table.now in
    let compared = ap₂ (λ (a b : List ℕ). not (bytes_eq a b)) (sym c.item.ensures.value)
    (ap (λ (row : PointRow). row.name) (sym c.point.ensures)) in
    sym (same_item (offered t) c.args.name.now (point_of t.rows c.args.point).name
    (own_point t.rows c.in-Some-Point.field-0-0.now)
    (ap (λ (found : Found). Some (object_found t found)) (sym c.in-Some-Point.field-0-is)
    ∙ c.in-Some-Point.ensures.named)
    (compared ∙ sym c.ne.ensures ∙ c.if-ne.false))
