use Rattle.std.proofs.Common.{◌≡◌, ◌++◌}
use Rattle.commands.specs.Load.Generated.{each_below}
use Rattle.commands.specs.Load.Generated as own
use Rattle.commands.proofs.load.tables.write_points.Given as goal

abbrev pub invariant-loop-point : goal.invariant-loop-point
invariant-loop-point l = l.out.items ≡ l.initial.out.items ++ each_below own.load_point l.point
