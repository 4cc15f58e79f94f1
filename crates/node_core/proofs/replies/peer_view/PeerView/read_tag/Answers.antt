use Rattle.std.proofs.Common.{◌<◌, List, length, ap, subst, arith}
use Rattle.std.proofs.lemmas.List.Elements.{All-contains}
use Rattle.bilateral.specs.declared.rows.Control.{Control}
use Rattle.bilateral.specs.Rows.{IsControlling}
use Rattle.sbo_device.specs.Banks.{DeviceRecord}
use Rattle.node_core.specs.Replies.Shown.{Shown}
use Rattle.node_core.proofs.replies.peer_view.PeerView.read_tag.Goals as goal
use Rattle.node_core.proofs.replies.peer_view.PeerView.read_tag.Goals.{After-devices-devices}

below : (c : After-devices-devices)
    → c.args.control.now.device < length c.devices-devices.result.now.devices
below c =
    let shown = c.args.self.now in
    let controls = subst (λ (s : Shown). IsControlling (length s.table.rows.devices) s.table.table)
    c.self.view_is c.table-lawful.ensures.controls in
    let there = All-contains (λ (x : Control). x.device < length shown.table.rows.devices)
    shown.table.table.controls c.args.control.now controls.known c.requires in
    let many = ap (λ (l : List DeviceRecord). length l) c.devices-devices.ensures.value in
    omega (arith, there, many, c.devices-devices.ensures.many)

pub tag_of-tag-requires : goal.tag_of-tag-requires
tag_of-tag-requires c = below (goal.at.tag_of-tag-requires c).After-devices-devices

pub reason_of-requires : goal.reason_of-requires
reason_of-requires c = below (goal.at.reason_of-requires c).After-devices-devices
