use Rattle.std.proofs.Common.{◌≡◌, ◌<◌, ℕ, length, Some, Option, refl, sym, ap, ◌∙◌}
use Rattle.std.specs.Prelude.{Contains}
use Rattle.std.proofs.lemmas.List.Elements.{All-contains}
use Rattle.bilateral.specs.declared.rows.Control.{Control}
use Rattle.tase_views.specs.OwnTables.{own_device}
use Rattle.tase_views.specs.Objects.{Object, object_named, control_point, device_tag}
use Rattle.node_core.specs.Devices.DeviceBanks.{number_of}
use Rattle.node_core.proofs.OfDevices.Numbers.{number_found}
use Rattle.node_core.specs.Objects.Found.{offered}
use Rattle.node_core.specs.Slots.SlotWrites.{operate_asked, tagging_asked, asked_of}
use Rattle.node_core.proofs.OfReplies.Answered.{ok_of}
use Rattle.node_core.proofs.replies.write_requests.read_write.Goals as goal
use Rattle.node_core.proofs.replies.write_requests.read_write.Goals.{After-find_object}

-- a row of the table is of a device that is there
below : (c : After-find_object) (control : Control)
    → Contains c.args.table.now.table.controls control
    → control.device < length c.args.table.now.rows.devices
below c control among =
    All-contains (λ (x : Control). x.device < length c.args.table.now.rows.devices)
    c.args.table.now.table.controls control c.table-lawful.ensures.controls.known among

-- whose number it has
number : (c : After-find_object) (control : Control)
    → Contains c.args.table.now.table.controls control
    → control.device ≡ number_of c.args.table.now.rows (own_device c.args.table.now.rows control)
number c control among =
    sym (number_found c.args.table.now.rows (own_device c.args.table.now.rows control)
    c.table-lawful.ensures.centre (control.device, below c control among, refl))

pub returns-in-Some-ControlPoint-clause-value : goal.returns-in-Some-ControlPoint-clause-value
returns-in-Some-ControlPoint-clause-value c =
    let at = (goal.at.returns-in-Some-ControlPoint-clause-value c).After-find_object in
    let t = c.args.table.now in
    let control = c.in-Some-ControlPoint.control.now in
    let named : Some (control_point (own_device t.rows control))
    ≡ object_named (offered t) c.args.name.now =
    rw c.in-Some-ControlPoint.field-0-is at c.in-Some-ControlPoint.ensures.named in
    let among : Contains t.table.controls control =
    rw c.in-Some-ControlPoint.field-0-is at c.in-Some-ControlPoint.ensures.there in
    c.read_operate.ensures
    ∙ ap (λ (n : ℕ). operate_asked n c.args.value.now) (number at control among)
    ∙ ap (λ (o : Option Object). asked_of t.rows o c.args.value.now) named

pub returns-in-Some-DeviceTag-clause-value : goal.returns-in-Some-DeviceTag-clause-value
returns-in-Some-DeviceTag-clause-value c =
    let at = (goal.at.returns-in-Some-DeviceTag-clause-value c).After-find_object in
    let t = c.args.table.now in
    let control = c.in-Some-DeviceTag.control.now in
    let named : Some (device_tag (own_device t.rows control))
    ≡ object_named (offered t) c.args.name.now =
    rw c.in-Some-DeviceTag.field-0-is at c.in-Some-DeviceTag.ensures.named in
    let among : Contains t.table.controls control =
    rw c.in-Some-DeviceTag.field-0-is at c.in-Some-DeviceTag.ensures.there in
    ok_of c.read_tagging.result
    (λ asked is. is
    ∙ ap (λ (n : ℕ). tagging_asked n control.tag c.args.value.now) (number at control among)
    ∙ ap (λ (o : Option Object). asked_of t.rows o c.args.value.now) named)
    c.read_tagging.ensures.value

pub returns-in-Some-DeviceTag-clause-there : goal.returns-in-Some-DeviceTag-clause-there
returns-in-Some-DeviceTag-clause-there c =
    let at = (goal.at.returns-in-Some-DeviceTag-clause-there c).After-find_object in
    let t = c.args.table.now in
    let control = c.in-Some-DeviceTag.control.now in
    let among : Contains t.table.controls control =
    rw c.in-Some-DeviceTag.field-0-is at c.in-Some-DeviceTag.ensures.there in
    c.read_tagging.ensures.there (length t.rows.devices) (below at control among)
