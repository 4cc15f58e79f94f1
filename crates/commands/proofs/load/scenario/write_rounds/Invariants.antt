use Rattle.std.proofs.Common.{◌≡◌, ◌++◌}
use Rattle.commands.specs.Load.Generated.{each_below}
use Rattle.commands.specs.Load.Generated as own
use Rattle.commands.proofs.load.scenario.write_rounds.Given as goal

abbrev pub invariant-loop-before : goal.invariant-loop-before
invariant-loop-before l = l.out.items ≡ l.initial.out.items ++ each_below own.load_round l.before
