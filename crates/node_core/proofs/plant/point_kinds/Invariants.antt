use Rattle.std.proofs.Common.{◌≡◌, map, take}
use Rattle.node_core.proofs.plant.point_kinds.Given as goal

abbrev pub invariant-loop-point : goal.invariant-loop-point
invariant-loop-point l = l.kinds.items ≡ map (λ row. row.kind) (take l.point l.centre.points)
