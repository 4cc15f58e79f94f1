use Rattle.transfer_sets.proofs.DueNumbers.{one_number, some_number}
use Rattle.transfer_sets.proofs.DueLater.{none_off}
use Rattle.transfer_sets.proofs.laws.due_is_one_number.Goals as goal

pub returns-clause-one : goal.returns-clause-one
returns-clause-one c = one_number

pub returns-clause-some : goal.returns-clause-some
returns-clause-some c = some_number

pub returns-clause-off : goal.returns-clause-off
returns-clause-off c = none_off
