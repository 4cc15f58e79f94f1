use Rattle.std.proofs.Common.{ap, ◌∙◌}
use Rattle.asking_end.proofs.service.running.talk_once.Goals as goal

pub returns-in-Some : goal.returns-in-Some
returns-in-Some g c = λ start so e. c.in-Some.ensures.flushes start so

pub returns-in-GoesOn : goal.returns-in-GoesOn
returns-in-GoesOn g c = λ start so e.
    c.in-GoesOn.ensures start (c.in-None.ensures.flushes start so)
    (ap (λ x. x.end) c.flush.ensures.asking ∙ e)

pub returns-in-Ends : goal.returns-in-Ends
returns-in-Ends g c = λ start so e.
    let t = c.in-Ends.ensures start (c.in-None.ensures.flushes start so)
    (ap (λ x. x.end) c.flush.ensures.asking ∙ e) in
    c.leave.ensures start t.0 t.1

pub returns-in-Fails : goal.returns-in-Fails
returns-in-Fails g c = λ start so e.
    c.in-Fails.ensures start (c.in-None.ensures.flushes start so)
    (ap (λ x. x.end) c.flush.ensures.asking ∙ e)
