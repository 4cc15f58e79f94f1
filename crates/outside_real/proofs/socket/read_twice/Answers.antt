use Rattle.std.proofs.Common.{refl}
use Rattle.outside_real.specs.declared.socket.Attempt.TheVariants.{NotYet, Failed}
use Rattle.outside_real.specs.LinkAttempts.{CameTo, WaitsBetween}
use Rattle.outside_real.proofs.LinkTrying.{twice_unwaited, twice_waited}
use Rattle.outside_real.proofs.socket.read_twice.Goals as goal

pub returns-then-not-wait-clause-attempts : goal.returns-then-not-wait-clause-attempts
returns-then-not-wait-clause-attempts g c =
    twice_unwaited (CameTo g.T.SocketAttempt.reads) (WaitsBetween g.T.SocketAttempt.waits)
    NotYet Failed _ (c.try_read.new.from, c.try_read.new.buf) _
    c.in-NotYet.ensures.attempts (c.if-not-wait.ensures, refl)

pub returns-clause-attempts : goal.returns-clause-attempts
returns-clause-attempts g c =
    twice_waited (CameTo g.T.SocketAttempt.reads) (WaitsBetween g.T.SocketAttempt.waits)
    NotYet Failed _ (c.try_read.new.from, c.try_read.new.buf)
    (c.wait.new.self, c.try_read.new.buf) _ _
    c.in-NotYet.ensures.attempts (c.if-not-wait.ensures, refl)
    c.try_read-2.ensures.attempts
