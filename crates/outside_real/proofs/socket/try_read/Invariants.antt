use Rattle.outside_real.specs.Attempts.{AreInterrupted}
use Rattle.outside_real.proofs.socket.try_read.Given as goal

abbrev pub invariant-loop-round : goal.invariant-loop-round
invariant-loop-round g l =
    AreInterrupted g.T.SocketAttempt.reads l._round (l.initial.from, l.initial.buf) (l.from, l.buf)
