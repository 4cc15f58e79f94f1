use Rattle.std.proofs.Common.{refl}
use Rattle.outside_real.proofs.LinkCalls.{receives_as}
use Rattle.outside_real.proofs.link.RealLinkLink.recv.Goals as goal

pub returns-in-Got-clause-attempts : goal.returns-in-Got-clause-attempts
returns-in-Got-clause-attempts g c =
    rw (← c.self.view_is) (
    receives_as g.T.SocketAttempt.reads g.T.SocketAttempt.waits g.T.SocketAttempt.ages
    _ _ _ _ _ c.if-self.false c.if-self-2.false c.in-Got.ensures.attempts refl
    )

pub returns-in-Idle-clause-attempts : goal.returns-in-Idle-clause-attempts
returns-in-Idle-clause-attempts g c =
    rw (← c.self.view_is) (
    receives_as g.T.SocketAttempt.reads g.T.SocketAttempt.waits g.T.SocketAttempt.ages
    _ _ _ _ _ c.if-self.false c.if-self-2.false c.in-Idle.ensures.attempts refl
    )

pub returns-in-End-clause-attempts : goal.returns-in-End-clause-attempts
returns-in-End-clause-attempts g c =
    rw (← c.self.view_is) (
    receives_as g.T.SocketAttempt.reads g.T.SocketAttempt.waits g.T.SocketAttempt.ages
    _ _ _ _ _ c.if-self.false c.if-self-2.false c.in-End.ensures.attempts refl
    )

pub returns-in-Failed-clause-attempts : goal.returns-in-Failed-clause-attempts
returns-in-Failed-clause-attempts g c =
    rw (← c.self.view_is) (
    receives_as g.T.SocketAttempt.reads g.T.SocketAttempt.waits g.T.SocketAttempt.ages
    _ _ _ _ _ c.if-self.false c.if-self-2.false c.in-Failed.ensures.attempts
    (rw c.count_fault-self-inside.ensures refl)
    )
