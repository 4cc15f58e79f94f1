use Rattle.std.proofs.Common.{◌≡◌}
use Rattle.sbo_device.specs.Moves.{closed}
use Rattle.sbo_device.specs.Banks.{moved}
use Rattle.sbo_device.proofs.BankLists.{part_by}
use Rattle.sbo_device.proofs.bank.close_all.Given as goal

abbrev pub invariant-loop-place : goal.invariant-loop-place
invariant-loop-place l =
    l.devices ≡ part_by (moved (closed l.key)) l.place l.initial.devices
