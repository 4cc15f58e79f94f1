use Rattle.std.proofs.Common.{◌≡◌, ◌+◌, ◌≤◌, ◌++◌, length, vec_len, vec_capacity}
use Rattle.std.specs.List.{All}
use Rattle.std.specs.Vec.Iter.{into_iter_items}
use Rattle.node_core.specs.Slots.SlotWrites.{IsAskedThere}
use Rattle.node_core.specs.Replies.DeviceWrites.{all_left, all_devices, all_orders}
use Rattle.node_core.proofs.replies.device_acts.write_devices.Given as goal

abbrev pub invariant-loop-one : goal.invariant-loop-one
invariant-loop-one l = record {
  left : l.left.items ++ all_left l.key (into_iter_items l.one-iterator) l.devices.devices
      ≡ l.initial.left.items ++ all_left l.key l.fn.asked.items l.initial.devices.devices;
  devices : all_devices l.key (into_iter_items l.one-iterator) l.devices.devices
      ≡ all_devices l.key l.fn.asked.items l.initial.devices.devices;
  orders : l.devices.orders
      ++ all_orders l.key (into_iter_items l.one-iterator) l.devices.devices
      ≡ l.initial.devices.orders ++ all_orders l.key l.fn.asked.items l.initial.devices.devices;
  there : All (IsAskedThere (length l.devices.devices)) (into_iter_items l.one-iterator);
  done : All (IsAskedThere 0) l.initial.left.items → All (IsAskedThere 0) l.left.items;
  spare : length (into_iter_items l.one-iterator) ≤ l.devices.spare;
  room : vec_len l.left + length (into_iter_items l.one-iterator) ≤ vec_capacity l.left;
}
