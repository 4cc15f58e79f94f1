use Rattle.std.proofs.Common.{◌≡◌, Some, Option, IfOk, refl, sym, subst, ap, ◌∙◌}
use Rattle.bilateral.specs.declared.rows.Table.{Table}
use Rattle.mms_data.specs.declared.outcome.Outcome.{Outcome}
use Rattle.tase_views.specs.OwnTables.{OwnTables, own_point}
use Rattle.tase_views.specs.Objects.{Object, object_named, indication_point}
use Rattle.tase_views.specs.View.{View}
use Rattle.tase_views.specs.Reports.{member_told}
use Rattle.node_core.specs.Objects.Found.{TableInForce, offered, special_object}
use Rattle.node_core.specs.Replies.Shown.{Shown}
use Rattle.node_core.proofs.OfReplies.Answered.{ok_each, ok_of}
use Rattle.node_core.proofs.replies.reports.member_told.Goals as goal

pub returns-in-Some-Special-clause-value : goal.returns-in-Some-Special-clause-value
returns-in-Some-Special-clause-value c =
    let shown = c.args.shown.now in
    let o = c.args.occasion in
    let name = c.args.name.now in
    let special = c.in-Some-Special.special in
    let inside : Some (special_object (offered c.table-table.result.now) special)
    ≡ object_named (offered c.table-table.result.now) name =
    rw c.in-Some-Special.field-0-is at c.in-Some-Special.ensures.named in
    let named = subst (λ (t : TableInForce). Some (special_object (offered t) special)
    ≡ object_named (offered t) name) c.table-table.ensures inside in
    ok_each shown shown
    (λ (s : Shown) (outcome : Outcome) (tables : OwnTables) (view : View). outcome
    ≡ member_told (offered s.table) view o.slot o.now o.conditions
    (object_named (offered s.table) name)) c.special_told.result refl
    (λ updates tables view s.
    subst (λ (object : Option Object). IfOk c.special_told.result (λ outcome. outcome
    ≡ member_told (offered shown.table) view o.slot o.now o.conditions object)) named
    (c.special_told.ensures.value (offered shown.table) view
    (sym (ap (λ (x : Table). x.domain) (c.table.ensures.table
    ∙ ap (λ (t : TableInForce). t.table) c.table-table.ensures)))))

pub returns-in-Some-Point-clause-value : goal.returns-in-Some-Point-clause-value
returns-in-Some-Point-clause-value c =
    let shown = c.args.shown.now in
    let o = c.args.occasion in
    let name = c.args.name.now in
    let see = c.in-Some-Point.see.now in
    let inside : Some (indication_point (own_point c.table-table.result.now.rows see))
    ≡ object_named (offered c.table-table.result.now) name =
    rw c.in-Some-Point.field-0-is at c.in-Some-Point.ensures.named in
    let named = subst (λ (t : TableInForce). Some (indication_point (own_point t.rows see))
    ≡ object_named (offered t) name) c.table-table.ensures inside in
    ok_of c.read_point.result
    (λ outcome each updates tables view s. each updates tables view s
    ∙ ap (member_told (offered shown.table) view o.slot o.now o.conditions) named)
    c.read_point.ensures.value
