use Rattle.std.proofs.Common.{◌++◌}
use Rattle.tase_conn.specs.Talking.{pending_of}
use Rattle.node_server.specs.Seats.Since.{log_since}
use Rattle.node_server.proofs.OfLinks.Left.{left_for}
use Rattle.node_server.proofs.OfSeats.Since.{since_prefix}
use Rattle.node_server.proofs.links.link_server.LinkServer.leave_for.Goals as goal

pub leave_seat-requires-clause-served : goal.leave_seat-requires-clause-served
leave_seat-requires-clause-served g c =
    let l = c.requires.leaves in
    let h = l.2.2 in
    (l.0, l.1, (h.acted, h.taken ++ pending_of c.args.conn.now, h.serves))

pub leave_seat-requires-clause-running : goal.leave_seat-requires-clause-running
leave_seat-requires-clause-running g c = c.requires.leaves.2.2.running

pub leave_seat-requires-clause-end : goal.leave_seat-requires-clause-end
leave_seat-requires-clause-end g c = c.requires.leaves.2.2.by_server

pub leave_seat-requires-clause-rests : goal.leave_seat-requires-clause-rests
leave_seat-requires-clause-rests g c = c.requires.leaves.2.2.rests

pub returns-clause-left : goal.returns-clause-left
returns-clause-left g c = λ since is start used h.
    let front = c.args.seat.now.front in
    let later = c.leave_seat.new.seat.front in
    left_for c.args.self.now.shared.now.setup c.args.seat.now.number (log_since since front)
    (log_since since later) start used c.args.conn.now c.leave_seat.new.conn
    (since_prefix since front later is c.leave_seat.ensures.seen)
    (c.leave_seat.ensures.shuts since is) c.args.end h
    (c.leave_seat.ensures.left since is h.acted (h.taken ++ pending_of c.args.conn.now) h.serves)
