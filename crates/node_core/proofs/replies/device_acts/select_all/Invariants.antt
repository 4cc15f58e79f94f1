use Rattle.std.proofs.Common.{◌≡◌, drop, length}
use Rattle.node_core.specs.Objects.Found.{offered}
use Rattle.node_core.specs.Replies.DeviceWrites.{AreOfRows, devices_read}
use Rattle.node_core.proofs.replies.device_acts.select_all.Given as goal

abbrev pub invariant-loop-name : goal.invariant-loop-name
invariant-loop-name l = record {
  left : devices_read l.table.rows (offered l.table) l.now l.key (drop l.name-index l.name-items)
      l.devices.devices
      ≡ devices_read l.table.rows (offered l.table) l.now l.key l.name-items
      l.initial.devices.devices;
  many : length l.devices.devices ≡ length l.initial.devices.devices;
  kept : AreOfRows l.table.rows l.devices.devices;
  orders : l.devices.orders ≡ l.initial.devices.orders;
}
