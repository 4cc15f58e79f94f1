use Rattle.std.proofs.Common.{◌≡◌, List, map, get_or, take_all, false, subst, ap, ◌∙◌}
use Rattle.std.proofs.Common.{arith, ◌++◌}
use Rattle.std.proofs.lemmas.List.{get_or_default}
use Rattle.bilateral.specs.declared.rows.Control.{Control}
use Rattle.bilateral.specs.declared.rows.DeviceRow.{DeviceRow}
use Rattle.bilateral.specs.declared.rows.Table.{Table}
use Rattle.tase_views.specs.OwnTables.{own_device}
use Rattle.tase_views.specs.Objects.{objects_of_device}
use Rattle.node_core.specs.Objects.Found.{device_objects}
use Rattle.node_core.proofs.OfObjects.DeviceNames.{device_listed, items_of}
use Rattle.node_core.proofs.objects.listing.device_names.Goals as goal

abbrev no_control : Control
no_control = record { device = 0; tag = false }

pub loop-control-preserved : goal.loop-control-preserved
loop-control-preserved c =
    let rows = c.args.table.now.rows in
    let items = c.as_slice-control-items.result.now in
    let index = c.loop-control.control-index in
    let control = get_or items index no_control in
    device_listed rows items index control c.loop-control.names c.push_device_names.new.names
    c.loop-control-test.true
    (get_or_default items index no_control control c.loop-control-test.true)
    c.loop-control.invariant
    (subst (λ (row : DeviceRow). c.push_device_names.new.names ≡ c.loop-control.names
    ++ items_of (objects_of_device (record { row = row; tag = control.tag })))
    c.device-row.ensures.row (c.in_ok-push_device_names.ensures control.tag))

pub returns : goal.returns
returns c =
    let t = c.args.table.now in
    let items = c.as_slice-control-items.result.now in
    c.loop-control.invariant
    ∙ ap (λ (those : List Control). items_of (device_objects (map (own_device t.rows) those)))
    (take_all c.loop-control.control-index items (omega arith)
    ∙ c.as_slice-control-items.ensures ∙ ap (λ (x : Table). x.controls) c.table.ensures.table)
