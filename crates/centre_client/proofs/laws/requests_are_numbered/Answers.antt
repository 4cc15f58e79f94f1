use Rattle.asking_end.proofs.Numbering.{number_rises, input-numbers}
use Rattle.centre_client.specs.Scripted.{script_acts}
use Rattle.centre_client.proofs.laws.requests_are_numbered.Goals as goal

pub returns-clause-next : goal.returns-clause-next
returns-clause-next c = λ input p. input-numbers script_acts input p

pub returns-clause-rises : goal.returns-clause-rises
returns-clause-rises c = number_rises
