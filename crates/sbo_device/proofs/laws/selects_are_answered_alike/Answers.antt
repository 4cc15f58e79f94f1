use Rattle.sbo_device.proofs.HoldsEnd.{answered_alike}
use Rattle.sbo_device.proofs.BankMoves.{each_answered_alike}
use Rattle.sbo_device.proofs.laws.selects_are_answered_alike.Goals as goal

pub returns-clause-itself : goal.returns-clause-itself
returns-clause-itself c = answered_alike

pub returns-clause-each : goal.returns-clause-each
returns-clause-each c = each_answered_alike
