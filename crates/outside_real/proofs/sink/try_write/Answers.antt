use Rattle.std.proofs.Common.{arith, rules}
use Rattle.outside_real.proofs.Trying.{interrupted_more, attempted_failed, not_true}
use Rattle.outside_real.proofs.sink.try_write.Goals as goal

pub returns-then-not-is_interrupted-clause-attempts :
    goal.returns-then-not-is_interrupted-clause-attempts
returns-then-not-is_interrupted-clause-attempts g c =
    attempted_failed (g.T.WriteAttempt.attempt c.args.piece.now) c.loop-round._round _
    c.loop-round.to _ c.in-Err.error
    c.loop-round.invariant (omega arith)
    (λ same. not_true c.is_interrupted.result (c.is_interrupted.ensures.1 same) (search rules))
    c.in-Err.ensures.attempt

pub loop-round-preserved : goal.loop-round-preserved
loop-round-preserved g c =
    interrupted_more (g.T.WriteAttempt.attempt c.args.piece.now) c.loop-round._round _
    c.loop-round.to _ c.in-Err.error
    c.loop-round.invariant (c.is_interrupted.ensures.0 (search rules)) c.in-Err.ensures.attempt
