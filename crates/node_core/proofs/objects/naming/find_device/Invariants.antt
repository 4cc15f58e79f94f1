use Rattle.std.proofs.Common.{◌≡◌, bytes_eq}
use Rattle.std.specs.List.{find}
use Rattle.node_core.specs.Objects.Found.{offered, device_objects}
use Rattle.node_core.proofs.OfObjects.DeviceNames.{devices_from}
use Rattle.node_core.proofs.objects.naming.find_device.Given as goal

abbrev pub invariant-loop-control : goal.invariant-loop-control
invariant-loop-control l =
    find (λ o. bytes_eq o.item l.item) (device_objects (offered l.table).devices)
    ≡ find (λ o. bytes_eq o.item l.item)
    (devices_from l.table.rows l.control-index l.control-items)
