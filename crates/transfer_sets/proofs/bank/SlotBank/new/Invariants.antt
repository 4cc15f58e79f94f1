use Rattle.std.proofs.Common.{◌≡◌}
use Rattle.transfer_sets.specs.Banks.{free_slots}
use Rattle.transfer_sets.proofs.bank.SlotBank.new.Given as goal

abbrev pub invariant-loop-slot : goal.invariant-loop-slot
invariant-loop-slot l = l.slots.items ≡ free_slots l.slot
