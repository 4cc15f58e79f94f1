use Rattle.std.proofs.Common.{Some, None, sym, ap, ◌∙◌}
use Rattle.std.specs.Option.{option_map}
use Rattle.bilateral.specs.declared.rows.Table.{Table}
use Rattle.tase_views.specs.OwnTables.{own_point}
use Rattle.node_core.specs.Objects.Found.{offered, special_object, object_found}
use Rattle.node_core.proofs.OfObjects.OwnObjects.{object_named-special, object_named-domain}
use Rattle.node_core.proofs.OfObjects.OwnObjects.{object_named-point}
use Rattle.node_core.proofs.objects.naming.find_object.Goals as goal

pub returns-in-Some-clause-named : goal.returns-in-Some-clause-named
returns-in-Some-clause-named c =
    let t = c.args.table.now in
    let domain = ap (λ (x : Table). x.domain) (sym c.table.ensures.table) in
    object_named-special t c.args.name.now (special_object (offered t) c.in-Some.special)
    (ap (option_map (special_object (offered t))) (sym c.in-Some.is)
    ∙ c.find_special.ensures (offered t) domain)

pub returns-in-Some-find_in_domain-clause-named : goal.returns-in-Some-find_in_domain-clause-named
returns-in-Some-find_in_domain-clause-named c =
    let t = c.args.table.now in
    let domain = ap (λ (x : Table). x.domain) (sym c.table.ensures.table) in
    object_named-domain t c.args.name.now (object_found t c.in-Some-find_in_domain.found)
    (ap (option_map (special_object (offered t))) (sym c.in-None.is)
    ∙ c.find_special.ensures (offered t) domain)
    c.in-Some-find_in_domain.ensures.named

pub returns-in-Some-find_point-clause-named : goal.returns-in-Some-find_point-clause-named
returns-in-Some-find_point-clause-named c =
    let t = c.args.table.now in
    let domain = ap (λ (x : Table). x.domain) (sym c.table.ensures.table) in
    object_named-point t c.args.name.now (Some (own_point t.rows c.in-Some-find_point.see.now))
    (ap (option_map (special_object (offered t))) (sym c.in-None.is)
    ∙ c.find_special.ensures (offered t) domain)
    c.in-None-find_in_domain.ensures.named c.in-Some-find_point.ensures.named

pub returns-in-None-find_point-clause-named : goal.returns-in-None-find_point-clause-named
returns-in-None-find_point-clause-named c =
    let t = c.args.table.now in
    let domain = ap (λ (x : Table). x.domain) (sym c.table.ensures.table) in
    object_named-point t c.args.name.now None
    (ap (option_map (special_object (offered t))) (sym c.in-None.is)
    ∙ c.find_special.ensures (offered t) domain)
    c.in-None-find_in_domain.ensures.named c.in-None-find_point.ensures.named
