use Rattle.outside_real.proofs.Trying.{attempted_as}
use Rattle.outside_real.proofs.source.ReadSourceSource.read.Goals as goal

pub returns-in-Some-eq0-clause-attempts : goal.returns-in-Some-eq0-clause-attempts
returns-in-Some-eq0-clause-attempts g c =
    rw (← c.self.view_is) (
    attempted_as g.T.ReadAttempt.attempt (c.self.inside.input, c.args.buf.now)
    (c.try_read.new.from, c.try_read.new.buf)
    c.in-Some-eq0.field-0 0 c.in-Some-eq0.field-0-test c.in-Some-eq0.ensures.attempts
    )

pub returns-in-Some-clause-attempts : goal.returns-in-Some-clause-attempts
returns-in-Some-clause-attempts g c = rw (← c.self.view_is) c.in-Some.ensures.attempts

pub returns-in-None-clause-attempts : goal.returns-in-None-clause-attempts
returns-in-None-clause-attempts g c = rw (← c.self.view_is) c.in-None.ensures.attempts
