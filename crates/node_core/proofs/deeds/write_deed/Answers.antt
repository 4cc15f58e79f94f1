use Rattle.std.proofs.Common.{◌≡◌, ◌<◌, length, Some, Option, ap, ◌∙◌}
use Rattle.std.specs.Prelude.{Contains, option_map}
use Rattle.std.specs.Option.{option_and_then}
use Rattle.std.proofs.lemmas.List.Elements.{All-contains}
use Rattle.bilateral.specs.declared.rows.Control.{Control}
use Rattle.tase_views.specs.OwnTables.{own_device}
use Rattle.tase_views.specs.Objects.{Object, object_named, control_point, device_tag}
use Rattle.tase_views.specs.Devices.{write_deed}
use Rattle.node_core.specs.Objects.Found.{offered}
use Rattle.node_core.specs.Deeds.{row_deed}
use Rattle.node_core.proofs.OfReplies.Answered.{ok_of}
use Rattle.node_core.proofs.deeds.write_deed.Goals as goal
use Rattle.node_core.proofs.deeds.write_deed.Goals.{After-find_object}

-- a row of the table is of a device that is there
below : (c : After-find_object) (control : Control)
    → Contains c.args.table.now.table.controls control
    → control.device < length c.args.table.now.rows.devices
below c control among =
    All-contains (λ (x : Control). x.device < length c.args.table.now.rows.devices)
    c.args.table.now.table.controls control c.table-lawful.ensures.controls.known among

pub returns-in-Some-ControlPoint-clause-deed : goal.returns-in-Some-ControlPoint-clause-deed
returns-in-Some-ControlPoint-clause-deed c =
    let t = c.args.table.now in
    let named : Some (control_point (own_device t.rows c.in-Some-ControlPoint.control.now))
    ≡ object_named (offered t) c.args.name.now =
    rw c.in-Some-ControlPoint.field-0-is at c.in-Some-ControlPoint.ensures.named in
    c.operate_deed.ensures.deed t.rows
    ∙ ap (λ (o : Option Object). option_map row_deed
    (option_and_then (write_deed c.args.value.now) o)) named

pub returns-in-Some-ControlPoint-clause-there : goal.returns-in-Some-ControlPoint-clause-there
returns-in-Some-ControlPoint-clause-there c =
    let at = (goal.at.returns-in-Some-ControlPoint-clause-there c).After-find_object in
    let t = c.args.table.now in
    let control = c.in-Some-ControlPoint.control.now in
    let among : Contains t.table.controls control =
    rw c.in-Some-ControlPoint.field-0-is at c.in-Some-ControlPoint.ensures.there in
    c.operate_deed.ensures.there (length t.rows.devices) (below at control among)

pub returns-in-Some-DeviceTag-clause-deed : goal.returns-in-Some-DeviceTag-clause-deed
returns-in-Some-DeviceTag-clause-deed c =
    let t = c.args.table.now in
    let named : Some (device_tag (own_device t.rows c.in-Some-DeviceTag.control.now))
    ≡ object_named (offered t) c.args.name.now =
    rw c.in-Some-DeviceTag.field-0-is at c.in-Some-DeviceTag.ensures.named in
    ok_of c.tag_deed.result
    (λ deed is. is ∙ ap (λ (o : Option Object). option_map row_deed
    (option_and_then (write_deed c.args.value.now) o)) named)
    (c.tag_deed.ensures.deed t.rows)

pub returns-in-Some-DeviceTag-clause-there : goal.returns-in-Some-DeviceTag-clause-there
returns-in-Some-DeviceTag-clause-there c =
    let at = (goal.at.returns-in-Some-DeviceTag-clause-there c).After-find_object in
    let t = c.args.table.now in
    let control = c.in-Some-DeviceTag.control.now in
    let among : Contains t.table.controls control =
    rw c.in-Some-DeviceTag.field-0-is at c.in-Some-DeviceTag.ensures.there in
    c.tag_deed.ensures.there (length t.rows.devices) (below at control among)
