use Rattle.std.proofs.Common.{inl, inr, arith}
use Rattle.outside_real.proofs.Trying.{attempted_as}
use Rattle.outside_real.proofs.sink.WriteSinkSink.write.Goals as goal
use Rattle.outside_real.proofs.sink.WriteSinkSink.write.Goals.{in_default-via-in-Some+else-count-gt0, in_default-via-in_default}

pub returns-in_default-clause-attempts : goal.returns-in_default-clause-attempts
returns-in_default-clause-attempts g c =
    rw (← c.self.view_is) (
    elim c.in_default.branch [
      | in_default-via-in-Some+else-count-gt0 w ↦
          inr (
          attempted_as (g.T.WriteAttempt.attempt c.args.piece.now) c.self.inside.output
          c.try_write.new.to w.in-Some.count 0
          (omega arith) w.in-Some.ensures.attempts
          )
      | in_default-via-in_default w ↦ inl w.in_default.ensures.attempts
    ]
    )
