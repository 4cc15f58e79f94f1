use Rattle.std.proofs.Common.{◌≡◌, ◌++◌}
use Rattle.commands.specs.Load.Generated.{each_below}
use Rattle.commands.specs.Load.Generated as own
use Rattle.commands.proofs.load.tables.write_peers.Given as goal

abbrev pub invariant-loop-peer : goal.invariant-loop-peer
invariant-loop-peer l = l.out.items ≡ l.initial.out.items ++ each_below own.load_peer l.peer
