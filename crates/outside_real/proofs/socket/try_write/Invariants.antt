use Rattle.outside_real.specs.Attempts.{AreInterrupted}
use Rattle.outside_real.proofs.socket.try_write.Given as goal

abbrev pub invariant-loop-round : goal.invariant-loop-round
invariant-loop-round g l =
    AreInterrupted (g.T.SocketAttempt.writes l.piece) l._round l.initial.to l.to
