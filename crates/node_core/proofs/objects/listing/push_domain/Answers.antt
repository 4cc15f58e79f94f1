use Rattle.std.proofs.Common.{ℕ, List, [], ◌∷◌, ◌++◌, map, filter, sym, ap, ◌∙◌}
use Rattle.std.proofs.Common.{append-nil}
use Rattle.std.specs.Prelude.{codes}
use Rattle.bilateral.specs.declared.rows.Table.{Table}
use Rattle.tase_views.specs.Objects.{NamedObject}
use Rattle.tase_views.specs.NameLists.{is_after}
use Rattle.node_core.specs.Objects.Found.{offered, device_objects, slot_objects}
use Rattle.node_core.proofs.OfObjects.Listed.{names_of, filtered_behind}
use Rattle.node_core.proofs.OfObjects.SlotNames.{names_in_domain, names_in_domain-away}
use Rattle.node_core.proofs.objects.listing.push_domain.Goals as goal

pub returns-then-not-is_found_in : goal.returns-then-not-is_found_in
returns-then-not-is_found_in c =
    let t = c.args.table.now in
    let names = names_of c.args.names.now.items in
    let domain = ap (λ (x : Table). x.domain) (sym c.table-own.ensures.table) in
    let away = sym (c.is_found_in.ensures (offered t) domain) ∙ c.if-not-is_found_in.true in
    sym (ap (λ (more : List (List ℕ)). names ++ filter (is_after c.args.after.now) more)
    (names_in_domain-away (offered t) c.args.scope.now away)
    ∙ append-nil names)

pub returns : goal.returns
returns c =
    let t = c.args.table.now in
    let names = names_of c.args.names.now.items in
    let test = is_after c.args.after.now in
    let next = codes "Next_DSTransfer_Set" in
    let devices = map (λ (o : NamedObject). o.item) (device_objects (offered t).devices) in
    let slots = map (λ (o : NamedObject). o.item) (slot_objects t.table.slots) in
    let domain = ap (λ (x : Table). x.domain) (sym c.table-own.ensures.table) in
    let here = sym (c.is_found_in.ensures (offered t) domain) ∙ c.if-not-is_found_in.false in
    let pushed = filtered_behind test names (next ∷ []) devices _ _ c.in_ok-push_after.ensures
    (rw c.requires at c.in_ok-push_names.ensures) in
    filtered_behind test names (next ∷ devices) slots _ _ pushed
    (rw c.table-own.ensures.table at c.in_ok-push_slots.ensures)
    ∙ ap (λ (more : List (List ℕ)). names ++ filter test more)
    (sym (names_in_domain (offered t) c.args.scope.now c.table-own.ensures.lawful.slots_least here))
