use Rattle.std.proofs.Common.{ap, ◌∙◌}
use Rattle.asking_end.proofs.OfService.Flushed.{ends_flushed}
use Rattle.asking_end.proofs.service.running.leave.Goals as goal

pub returns-in-Some : goal.returns-in-Some
returns-in-Some g c = λ start so e. c.in-Some.ensures.flushes start so

pub returns-in-None : goal.returns-in-None
returns-in-None g c = λ start so e.
    ends_flushed g.A.Agenda.acts start (g.T.Terminal.told c.flush.new.terminal) c.flush.new.talk
    c.args.end (c.in-None.ensures.flushes start so)
    (ap (λ x. x.end) c.flush.ensures.asking ∙ e)
