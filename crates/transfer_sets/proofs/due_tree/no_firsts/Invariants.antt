use Rattle.std.proofs.Common.{◌≡◌, replicate, None}
use Rattle.transfer_sets.proofs.due_tree.no_firsts.Given as goal

abbrev pub invariant-loop-slot : goal.invariant-loop-slot
invariant-loop-slot l = l.firsts.items ≡ replicate l.slot None
