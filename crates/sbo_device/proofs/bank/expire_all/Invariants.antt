use Rattle.std.proofs.Common.{◌≡◌}
use Rattle.sbo_device.specs.Moves.{ticked}
use Rattle.sbo_device.specs.Banks.{moved}
use Rattle.sbo_device.proofs.BankLists.{part_by}
use Rattle.sbo_device.proofs.bank.expire_all.Given as goal

abbrev pub invariant-loop-place : goal.invariant-loop-place
invariant-loop-place l =
    l.devices ≡ part_by (moved (ticked l.now)) l.place l.initial.devices
