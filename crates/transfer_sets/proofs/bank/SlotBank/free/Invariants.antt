use Rattle.std.proofs.Common.{◌≡◌}
use Rattle.look_count.specs.Counted.{looked}
use Rattle.transfer_sets.specs.Banks.{freed}
use Rattle.transfer_sets.proofs.BankLists.{part_by}
use Rattle.transfer_sets.proofs.bank.SlotBank.free.Given as goal

abbrev pub invariant-loop-place : goal.invariant-loop-place
invariant-loop-place l =
    (l.self-inside.slots.items
    ≡ part_by (freed l.ordinal) l.place l.initial.self-inside.slots.items)
    × (l.looks ≡ looked l.initial.looks l.place)
