use Rattle.std.proofs.Common.{◌≡◌, replicate, None}
use Rattle.transfer_sets.proofs.due_index.DueIndex.new.Given as goal

abbrev pub invariant-loop-slot : goal.invariant-loop-slot
invariant-loop-slot l = l.moments.items ≡ replicate l.slot None
