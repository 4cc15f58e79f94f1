use Rattle.std.proofs.Common.{◌++◌}
use Rattle.tase_conn.specs.Talking.{pending_of}
use Rattle.conn_service.proofs.Going.{served_placed}
use Rattle.node_server.specs.Seats.Since.{log_since}
use Rattle.node_server.specs.Links.GivenItems.{items_of}
use Rattle.node_server.proofs.OfLinks.Received.{taken_way, failed_leaves, memory_leaves}
use Rattle.node_server.proofs.OfSeats.Since.{past_since}
use Rattle.node_server.proofs.links.link_server.LinkServer.receive_turn.Goals as goal

pub receive-requires-clause-resting : goal.receive-requires-clause-resting
receive-requires-clause-resting g c = c.requires.turn.2.1.stands.resting

pub receive-requires-clause-placed : goal.receive-requires-clause-placed
receive-requires-clause-placed g c =
    let h = c.requires.turn in
    let w = h.2.1.stands.way in
    served_placed c.args.self.now.shared.now.setup.centre
    (past_since h.0 c.args.seat.now.front) c.args.seat.now.number c.args.conn.now
    (items_of w.given, w.taken ++ pending_of c.args.conn.now, w.serves)

pub leave_for-requires-clause-leaves : goal.leave_for-requires-clause-leaves
leave_for-requires-clause-leaves g c =
    let h = c.requires.turn in
    let start = h.2.0 in
    let after = g.L.Link.told c.receive.new.link in (
      h.0,
      h.1,
      (
        start,
        after,
        failed_leaves c.args.self.now.shared.now.setup c.args.seat.now.number
            (log_since h.0 c.args.seat.now.front) start (g.L.Link.told c.args.link.now) after
            c.args.conn.now c.receive.new.conn h.2.1 c.in-Failed.ensures,
      ),
    )

pub leave_for-requires-in-Memory-clause-leaves : goal.leave_for-requires-in-Memory-clause-leaves
leave_for-requires-in-Memory-clause-leaves g c =
    let h = c.requires.turn in
    let start = h.2.0 in
    let after = g.L.Link.told c.receive.new.link in (
      h.0,
      h.1,
      (
        start,
        after,
        memory_leaves c.args.self.now.shared.now.setup c.args.seat.now.number
            (log_since h.0 c.args.seat.now.front) start (g.L.Link.told c.args.link.now) after
            c.args.conn.now c.receive.new.conn h.2.1 c.in-Memory.ensures,
      ),
    )

pub attend-requires-clause-way : goal.attend-requires-clause-way
attend-requires-clause-way g c =
    let h = c.requires.turn in
    let start = h.2.0 in
    let after = g.L.Link.told c.receive.new.link in (
      h.0,
      h.1,
      (
        start,
        after,
        taken_way c.args.self.now.shared.now.setup c.args.seat.now.number
            (log_since h.0 c.args.seat.now.front) start (g.L.Link.told c.args.link.now) after
            c.args.conn.now c.receive.new.conn h.2.1 c.in-Taken.ensures,
      ),
    )

pub returns-in-Failed-clause-comes : goal.returns-in-Failed-clause-comes
returns-in-Failed-clause-comes g c = λ since is start t.
    let after = g.L.Link.told c.receive.new.link in
    c.leave_for.ensures.left since is start after
    (failed_leaves c.args.self.now.shared.now.setup c.args.seat.now.number
    (log_since since c.args.seat.now.front) start (g.L.Link.told c.args.link.now) after
    c.args.conn.now c.receive.new.conn t c.in-Failed.ensures)

pub returns-in-Memory-clause-comes : goal.returns-in-Memory-clause-comes
returns-in-Memory-clause-comes g c = λ since is start t.
    let after = g.L.Link.told c.receive.new.link in
    c.leave_for-in-Memory.ensures.left since is start after
    (memory_leaves c.args.self.now.shared.now.setup c.args.seat.now.number
    (log_since since c.args.seat.now.front) start (g.L.Link.told c.args.link.now) after
    c.args.conn.now c.receive.new.conn t c.in-Memory.ensures)

pub returns-in-Taken-clause-comes : goal.returns-in-Taken-clause-comes
returns-in-Taken-clause-comes g c = λ since is start t.
    let after = g.L.Link.told c.receive.new.link in
    c.attend.ensures.attended since is start after
    (taken_way c.args.self.now.shared.now.setup c.args.seat.now.number
    (log_since since c.args.seat.now.front) start (g.L.Link.told c.args.link.now) after
    c.args.conn.now c.receive.new.conn t c.in-Taken.ensures)
