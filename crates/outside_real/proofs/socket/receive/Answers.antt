use Rattle.std.proofs.Common.{◌∙◌, inl, ap}
use Rattle.outside_real.specs.declared.socket.Attempt.TheVariants.{Came}
use Rattle.outside_real.proofs.LinkTrying.{twice_as}
use Rattle.outside_real.proofs.socket.receive.Goals as goal

pub returns-in-Came-eq0-clause-attempts : goal.returns-in-Came-eq0-clause-attempts
returns-in-Came-eq0-clause-attempts g c =
    inl (twice_as g.T.SocketAttempt.reads g.T.SocketAttempt.waits _ _ _ (Came 0)
    (c.in-Came-eq0.is ∙ ap Came c.in-Came-eq0.field-0-test) c.read_twice.ensures.attempts)

pub returns-in-Failed-clause-attempts : goal.returns-in-Failed-clause-attempts
returns-in-Failed-clause-attempts g c = inl c.in-Failed.ensures.attempts
