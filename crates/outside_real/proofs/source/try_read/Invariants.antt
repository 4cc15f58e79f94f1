use Rattle.outside_real.specs.Attempts.{AreInterrupted}
use Rattle.outside_real.proofs.source.try_read.Given as goal

abbrev pub invariant-loop-round : goal.invariant-loop-round
invariant-loop-round g l =
    AreInterrupted g.T.ReadAttempt.attempt l._round (l.initial.from, l.initial.buf) (l.from, l.buf)
