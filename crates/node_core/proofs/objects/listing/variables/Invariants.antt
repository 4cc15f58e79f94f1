use Rattle.std.proofs.Common.{◌≡◌, ◌++◌, map, take}
use Rattle.std.specs.List.{filter_map}
use Rattle.node_core.specs.Objects.Found.{offered}
use Rattle.node_core.proofs.OfObjects.Listed.{row_listed, front_listed}
use Rattle.node_core.proofs.objects.listing.variables.Given as goal

abbrev pub invariant-loop-see : goal.invariant-loop-see
invariant-loop-see l =
    map (λ name. name.now) l.names.items
    ≡ front_listed (offered l.table) l.scope l.after
    ++ filter_map (row_listed l.table.rows (offered l.table) l.scope l.after)
    (take l.see-index l.see-items)
