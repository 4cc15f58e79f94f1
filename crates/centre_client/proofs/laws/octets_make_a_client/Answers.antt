-- What the messages that octets tell make of a client is what all octets make of it.
use Rattle.asking_end.proofs.HeardSteps.{all_heard, broken_heard, ended_heard}
use Rattle.centre_client.specs.Scripted.{script_acts, scripted, title_of}
use Rattle.centre_client.proofs.laws.octets_make_a_client.Goals as goal

pub returns-clause-rest : goal.returns-clause-rest
returns-clause-rest c = λ rows script octets rest told step heard tells.
    all_heard script_acts (title_of rows script) (scripted rows script) octets rest told step
    heard tells

pub returns-clause-broken : goal.returns-clause-broken
returns-clause-broken c = λ rows script octets told step fault heard lasts stops.
    broken_heard script_acts (title_of rows script) (scripted rows script) octets told step fault
    heard lasts stops

pub returns-clause-ended : goal.returns-clause-ended
returns-clause-ended c = λ rows script octets told step end messages heard is starts tell.
    ended_heard script_acts (title_of rows script) (scripted rows script) octets told step end
    messages heard is starts tell
