use Rattle.asking_end.proofs.Numbering.{input-numbers, number_rises}
use Rattle.asking_end.proofs.laws.requests_are_numbered.Goals as goal

pub returns-clause-next : goal.returns-clause-next
returns-clause-next g c = λ acts input p. input-numbers acts input p

pub returns-clause-rises : goal.returns-clause-rises
returns-clause-rises g c = number_rises
