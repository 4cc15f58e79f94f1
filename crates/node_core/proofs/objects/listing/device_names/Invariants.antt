use Rattle.std.proofs.Common.{◌≡◌, map, take}
use Rattle.tase_views.specs.OwnTables.{own_device}
use Rattle.node_core.specs.Objects.Found.{device_objects}
use Rattle.node_core.proofs.objects.listing.device_names.Given as goal

abbrev pub invariant-loop-control : goal.invariant-loop-control
invariant-loop-control l =
    l.names
    ≡ map (λ o. o.item)
    (device_objects (map (own_device l.table.rows) (take l.control-index l.control-items)))
