use Rattle.std.proofs.Common.{arith, rules}
use Rattle.outside_real.proofs.Trying.{interrupted_more, not_true}
use Rattle.outside_real.proofs.LinkTrying.{came_to_error}
use Rattle.outside_real.proofs.socket.try_write.Goals as goal

pub returns-then-not-is_interrupted-clause-attempts :
    goal.returns-then-not-is_interrupted-clause-attempts
returns-then-not-is_interrupted-clause-attempts g c =
    came_to_error (g.T.SocketAttempt.writes c.args.piece.now) c.loop-round._round _
    c.loop-round.to _ c.in-Err.error c.failed_as.result
    c.loop-round.invariant (omega arith)
    (λ same. not_true c.is_interrupted.result (c.is_interrupted.ensures.1 same) (search rules))
    c.in-Err.ensures.writes c.failed_as.ensures

pub loop-round-preserved : goal.loop-round-preserved
loop-round-preserved g c =
    interrupted_more (g.T.SocketAttempt.writes c.args.piece.now) c.loop-round._round _
    c.loop-round.to _ c.in-Err.error
    c.loop-round.invariant (c.is_interrupted.ensures.0 (search rules)) c.in-Err.ensures.writes
