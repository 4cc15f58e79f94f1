use Rattle.std.proofs.Common.{◌≡◌}
use Rattle.tase_conn.specs.Places.{IsPlaced}
use Rattle.tase_conn.specs.Wanting.{PassesSo, IsIdle}
use Rattle.tase_conn.specs.Acting.{steps_left}
use Rattle.tase_conn.proofs.conn.Conn.read_on.Given as goal

abbrev pub invariant-loop-self : goal.invariant-loop-self
invariant-loop-self l = record {
  placed : IsPlaced l.self;
  idle : IsIdle l.self.progress;
  stage : l.self.stage ≡ l.initial.self.stage;
  passes : PassesSo l.initial.self l.self;
}

abbrev pub decreases-loop-self : goal.decreases-loop-self
decreases-loop-self l = steps_left l.self
