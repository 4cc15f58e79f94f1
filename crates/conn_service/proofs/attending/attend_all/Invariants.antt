use Rattle.std.proofs.Common.{◌≡◌, reverse}
use Rattle.conn_service.specs.Attending.{IsServed, remaining}
use Rattle.conn_service.proofs.Attended.{GoesSo}
use Rattle.conn_service.proofs.attending.attend_all.Given as goal

abbrev pub invariant-loop-event : goal.invariant-loop-event
invariant-loop-event l = record {
  served : IsServed l.node.setup.centre (reverse l.node.history) l.who l.conn;
  setup : l.node.setup ≡ l.initial.node.setup;
  goes : GoesSo l.initial.node.setup (reverse l.initial.node.history) l.who l.initial.conn
      (reverse l.node.history) l.conn;
}

abbrev pub decreases-loop-event : goal.decreases-loop-event
decreases-loop-event l = remaining l.node.setup (reverse l.node.history) l.who
