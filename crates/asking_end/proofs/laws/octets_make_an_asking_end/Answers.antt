use Rattle.asking_end.proofs.HeardSteps.{all_heard, broken_heard, ended_heard}
use Rattle.asking_end.proofs.laws.octets_make_an_asking_end.Goals as goal

pub returns-clause-rest : goal.returns-clause-rest
returns-clause-rest g c = all_heard

pub returns-clause-broken : goal.returns-clause-broken
returns-clause-broken g c = broken_heard

pub returns-clause-ended : goal.returns-clause-ended
returns-clause-ended g c = λ acts title agenda octets told step end messages heard is starts tell.
    ended_heard acts title agenda octets told step end messages heard is starts tell
