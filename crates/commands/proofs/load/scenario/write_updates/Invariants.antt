use Rattle.std.proofs.Common.{◌≡◌, ◌++◌}
use Rattle.commands.specs.Load.Generated.{each_below}
use Rattle.commands.specs.Load.Generated as own
use Rattle.commands.proofs.load.scenario.write_updates.Given as goal

abbrev pub invariant-loop-place : goal.invariant-loop-place
invariant-loop-place l =
    l.out.items ≡ l.initial.out.items ++ each_below (own.load_update l.before) l.place
