use Rattle.tase_audit.proofs.Audited.{views_alike, answers_alike}
use Rattle.tase_audit.proofs.laws.equal_runs_are_answered_alike.Goals as goal

pub returns-clause-views : goal.returns-clause-views
returns-clause-views c = views_alike

pub returns-clause-answers : goal.returns-clause-answers
returns-clause-answers c = λ one other peer place limit most alike.
    answers_alike one other peer place alike limit most
