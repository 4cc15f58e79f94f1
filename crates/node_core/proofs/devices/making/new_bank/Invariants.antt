use Rattle.node_core.proofs.OfDevices.NewBanks.{HasFirst}
use Rattle.node_core.proofs.devices.making.new_bank.Given as goal

abbrev pub invariant-loop-number : goal.invariant-loop-number
invariant-loop-number l = HasFirst l.centre l.number l.bank
