use Rattle.std.proofs.Common.{subst}
use Rattle.node_server.proofs.OfSeats.Behind.{at_twice, prefix_then}
use Rattle.node_server.specs.NodeCalls.{NodeSeat, CallsNode}
use Rattle.node_server.proofs.links.serving.serve_connection.Goals as goal

pub returns-clause-same : goal.returns-clause-same
returns-clause-same g c = at_twice c.args.seat.now c.serve-end.new.seat c.stop_if_full.new.seat
    c.serve-end.ensures.same c.stop_if_full.ensures.same

pub returns-clause-seen : goal.returns-clause-seen
returns-clause-seen g c = prefix_then c.args.seat.now.front c.serve-end.new.seat.front
    c.stop_if_full.new.seat.front c.serve-end.ensures.seen c.stop_if_full.ensures.seen

pub returns-clause-serves : goal.returns-clause-serves
returns-clause-serves g c =
    let stops = c.stop_if_full.ensures.stops in record {
      seen = c.serve-end.new.seat.front;
      is_front = c.serve-end.ensures.seen;
      used = g.L.Link.told c.serve-end.new.link;
      served = c.serve-end.ensures.serves;
      closed = c.close.ensures;
      stop = stops.0;
      stops = stops.1;
      stopped = subst (λ (s : NodeSeat). CallsNode c.args.shared.now.setup s stops.0
          c.stop_if_full.new.seat.front) c.serve-end.ensures.same stops.2;
    }
