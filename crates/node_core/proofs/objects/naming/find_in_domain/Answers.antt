use Rattle.std.proofs.Common.{◌≡◌, true, false, bytes_eq, rules, refl, sym, ap, ◌∙◌, Option}
use Rattle.std.proofs.Common.{None}
use Rattle.std.specs.Prelude.{codes, find}
use Rattle.std.specs.Option.{option_map, option_or}
use Rattle.bilateral.specs.declared.rows.Table.{Table}
use Rattle.tase_views.specs.OwnTables.{is_scope_of}
use Rattle.tase_views.specs.Objects.{NamedObject, Object}
use Rattle.node_core.specs.Objects.Found.{offered, slot_objects, device_objects}
use Rattle.node_core.proofs.OfObjects.OwnObjects.{or_mapped, named_in_domain}
use Rattle.node_core.proofs.OfObjects.SlotNames.{domain_found-away, domain_found-next}
use Rattle.node_core.proofs.OfObjects.SlotNames.{domain_found-other}
use Rattle.node_core.proofs.objects.naming.find_in_domain.Goals as goal
use Rattle.node_core.proofs.objects.naming.find_in_domain.Goals.{After-eq}

pub returns-then-not-is_found_in-clause-named : goal.returns-then-not-is_found_in-clause-named
returns-then-not-is_found_in-clause-named c =
    let t = c.args.table.now in
    let name = c.args.name.now in
    let domain = ap (λ (x : Table). x.domain) (sym c.table-own.ensures.table) in
    let away : is_scope_of (offered t) name.scope false ≡ false =
    rw (← c.scope.ensures.value)
    (sym (c.is_found_in.ensures (offered t) domain) ∙ c.if-not-is_found_in.true) in
    ap (option_map (λ (o : NamedObject). o.object))
    (sym (domain_found-away (offered t) name.scope name.item away))

here : (c : After-eq) → is_scope_of (offered c.args.table.now) c.args.name.now.scope false ≡ true
here c =
    rw (← c.scope.ensures.value)
    (sym (c.is_found_in.ensures (offered c.args.table.now)
    (ap (λ (x : Table). x.domain) (sym c.table-own.ensures.table))) ∙ c.if-not-is_found_in.false)

asked : (c : After-eq) → c.as_slice-item.result.now ≡ c.args.name.now.item
asked c = c.as_slice-item.ensures.value ∙ c.item.ensures.value

pub returns-then-eq-clause-named : goal.returns-then-eq-clause-named
returns-then-eq-clause-named c =
    let name = c.args.name.now in
    let at = (goal.at.returns-then-eq-clause-named c).After-eq in
    let next : bytes_eq (codes "Next_DSTransfer_Set") c.as_slice-item.result.now ≡ true =
    search rules in
    ap (option_map (λ (o : NamedObject). o.object))
    (sym (domain_found-next (offered c.args.table.now) name.scope name.item
    c.table-own.ensures.lawful.slots_least (here at) (rw (asked at) at next)))

-- a device's object, or else a transfer set's
other : (c : After-eq) (found slots : Option Object)
    → bytes_eq (codes "Next_DSTransfer_Set") c.as_slice-item.result.now ≡ false
    → found ≡ option_map (λ (o : NamedObject). o.object)
    (find (λ o. bytes_eq o.item c.args.name.now.item)
    (device_objects (offered c.args.table.now).devices))
    → slots ≡ option_map (λ (o : NamedObject). o.object)
    (find (λ o. bytes_eq o.item c.args.name.now.item) (slot_objects c.args.table.now.table.slots))
    → option_or found slots ≡ named_in_domain (offered c.args.table.now) c.args.name.now
other c found slots apart is are =
    let t = c.args.table.now in
    let name = c.args.name.now in
    let object : NamedObject → Object = λ o. o.object in
    ap (λ (o : Option Object). option_or o slots) is
    ∙ ap (λ (o : Option Object). option_or (option_map object
    (find (λ o. bytes_eq o.item name.item) (device_objects (offered t).devices))) o) are
    ∙ sym (or_mapped object
    (find (λ o. bytes_eq o.item name.item) (device_objects (offered t).devices))
    (find (λ o. bytes_eq o.item name.item) (slot_objects t.table.slots)))
    ∙ ap (option_map object)
    (sym (domain_found-other (offered t) name.scope name.item c.table-own.ensures.lawful.slots_least
    (here c) (rw (asked c) at apart)))

pub returns-in-Some-clause-named : goal.returns-in-Some-clause-named
returns-in-Some-clause-named c =
    let at = (goal.at.returns-in-Some-clause-named c).After-eq in
    other at _ _ (search rules) (rw (asked at) at c.in-Some.ensures.named) refl

pub returns-in-None-clause-named : goal.returns-in-None-clause-named
returns-in-None-clause-named c =
    let at = (goal.at.returns-in-None-clause-named c).After-eq in
    other at None _ (search rules) (rw (asked at) at c.in-None.ensures.named)
    (rw (asked at, c.table-own.ensures.table) at (c.find_slot.ensures.named c.args.table.now))

pub returns-in-None-clause-there : goal.returns-in-None-clause-there
returns-in-None-clause-there c =
    c.find_slot.ensures.there c.args.table.now
    (ap (λ (x : Table). x.slots) (sym c.table-own.ensures.table))
