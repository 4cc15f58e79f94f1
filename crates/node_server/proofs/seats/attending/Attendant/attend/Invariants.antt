use Rattle.std.proofs.Common.{◌≡◌}
use mathlib.Core.List.{IsPrefix}
use Rattle.conn_service.specs.Attending.{IsServed, remaining}
use Rattle.share_turn.specs.Public.{at}
use Rattle.node_server.specs.Turn.Logged.{past_in}
use Rattle.node_server.specs.NodeCalls.{NodeLog}
use Rattle.node_server.specs.Seats.Since.{SomeSince, EachSince}
use Rattle.node_server.specs.Seats.Serving.{shared_setup}
use Rattle.node_server.specs.Seats.Peers.{HasItsPeer}
use Rattle.node_server.proofs.OfSeats.Going.{SeatServes}
use Rattle.node_server.proofs.seats.attending.Attendant.attend.Given as goal

abbrev pub invariant-loop-event : goal.invariant-loop-event
invariant-loop-event g l = record {
  same : l.seat ≡ at l.initial.seat l.seat.front;
  seen : IsPrefix l.initial.seat.front l.seat.front;
  served : SomeSince l.seat.front (λ (log : NodeLog).
      IsServed l.fn.self.shared.now.setup.centre (past_in log) l.seat.number l.conn);
  serves : EachSince l.initial.seat.front l.seat.front (λ (log longer : NodeLog).
      SeatServes (shared_setup l.fn.self.shared.now.setup) l.initial.seat.number (past_in log)
      l.initial.conn (past_in longer) l.conn);
  peer : EachSince l.initial.seat.front l.seat.front (λ (log longer : NodeLog).
      HasItsPeer (past_in log) l.initial.seat.number l.initial.conn
      → HasItsPeer (past_in longer) l.seat.number l.conn);
}

abbrev pub decreases-loop-event : goal.decreases-loop-event
decreases-loop-event g l = remaining (shared_setup l.fn.self.shared.now.setup)
    (past_in l.seat.front) l.seat.number
