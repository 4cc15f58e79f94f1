use Rattle.std.proofs.Common.{◌≡◌, map, take}
use Rattle.tase_points.specs.Values.{unknown_sample}
use Rattle.point_db.proofs.store.unknown_values.Given as goal

abbrev pub invariant-loop-kind : goal.invariant-loop-kind
invariant-loop-kind l = l.values.items ≡ map unknown_sample (take l.kind-index l.kinds)
