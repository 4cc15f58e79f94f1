use Rattle.std.proofs.Common.{◌≡◌, List, map, get_or, bytes_eq, sym, ap, ◌∙◌, arith}
use Rattle.std.proofs.Common.{length, ◌≤◌, drop_of_length-le, subst, false}
use Rattle.std.proofs.lemmas.List.{get_or_default}
use Rattle.std.proofs.lemmas.List.Elements.{Contains-get_or}
use Rattle.std.specs.Prelude.{Contains}
use Rattle.std.specs.List.{find}
use Rattle.std.specs.Option.{option_map}
use Rattle.bilateral.specs.declared.rows.Control.{Control}
use Rattle.bilateral.specs.declared.rows.Table.{Table}
use Rattle.tase_views.specs.OwnTables.{own_device}
use Rattle.tase_views.specs.Objects.{NamedObject}
use Rattle.node_core.specs.Objects.Found.{device_objects, object_found}
use Rattle.node_core.proofs.OfObjects.DeviceNames.{devices_none, device_found, device_passed}
use Rattle.node_core.proofs.objects.naming.find_device.Goals as goal
use Rattle.node_core.proofs.objects.naming.find_device.Goals.{In-loop-control}

abbrev no_control : Control
no_control = record { device = 0; tag = false }

pub returns-then-not-may_be_device-clause-named : goal.returns-then-not-may_be_device-clause-named
returns-then-not-may_be_device-clause-named c =
    let t = c.args.table.now in
    ap (option_map (λ (o : NamedObject). o.object))
    (sym (devices_none t.rows c.args.item.now t.table.controls
    (λ k d within. c.may_be_device.ensures (get_or t.table.controls k d)
    (c.table-own.ensures.controls.known k d within) c.if-not-may_be_device.true)))

pub loop-control-init : goal.loop-control-init
loop-control-init c =
    ap (λ (those : List Control). find (λ o. bytes_eq o.item c.args.item.now)
    (device_objects (map (own_device c.args.table.now.rows) those)))
    (sym (c.as_slice-control-items.ensures
    ∙ ap (λ (x : Table). x.controls) c.table-own.ensures.table))

here : (c : In-loop-control)
    → c.as_slice-control-items.result.now ≡ c.args.table.now.table.controls
here c = c.as_slice-control-items.ensures
    ∙ ap (λ (x : Table). x.controls) c.table-own.ensures.table

pub object_of_device-requires : goal.object_of_device-requires
object_of_device-requires c =
    let items = c.as_slice-control-items.result.now in
    subst (λ (those : List Control). Contains those
    (get_or items c.loop-control.control-index no_control))
    (here c)
    (Contains-get_or items c.loop-control.control-index no_control c.loop-control-test.true)

pub returns-in-Some-clause-named : goal.returns-in-Some-clause-named
returns-in-Some-clause-named c =
    let t = c.args.table.now in
    let items = c.as_slice-control-items.result.now in
    let index = c.loop-control.control-index in
    device_found t.rows c.args.item.now items _ index (get_or items index no_control)
    c.loop-control-test.true
    (get_or_default items index no_control (get_or items index no_control) c.loop-control-test.true)
    c.loop-control.invariant (object_found t c.in-Some.found)
    (ap (option_map (object_found t)) (sym c.in-Some.is) ∙ c.object_of_device.ensures.named)

pub loop-control-preserved : goal.loop-control-preserved
loop-control-preserved c =
    let t = c.args.table.now in
    let items = c.as_slice-control-items.result.now in
    let index = c.loop-control.control-index in
    device_passed t.rows c.args.item.now items _ index (get_or items index no_control)
    c.loop-control-test.true
    (get_or_default items index no_control (get_or items index no_control) c.loop-control-test.true)
    c.loop-control.invariant
    (ap (option_map (object_found t)) (sym c.in_default.is) ∙ c.object_of_device.ensures.named)

pub returns-clause-named : goal.returns-clause-named
returns-clause-named c =
    let items = c.as_slice-control-items.result.now in
    let rows = c.args.table.now.rows in
    let past : length items ≤ c.loop-control.control-index = omega arith in
    ap (option_map (λ (o : NamedObject). o.object))
    (sym (c.loop-control.invariant
    ∙ ap (λ (those : List Control). find (λ o. bytes_eq o.item c.args.item.now)
    (device_objects (map (own_device rows) those))) (drop_of_length-le items past)))
