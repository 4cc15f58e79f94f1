use Rattle.std.proofs.Common.{ℕ, ◌++◌, ap, subst, ◌∙◌}
use Rattle.tase_conn.specs.Talking.{pending_of}
use Rattle.node_server.specs.Seats.Since.{log_since}
use Rattle.node_server.specs.NodeCalls.{NodeSeat}
use Rattle.node_server.specs.Seats.Peers.{HasItsPeer}
use Rattle.node_server.specs.Links.GivenItems.{items_of}
use Rattle.node_server.proofs.OfLinks.Handled.{handled}
use Rattle.node_server.proofs.OfSeats.Since.{past_since, since_prefix}
use Rattle.node_server.proofs.links.link_server.LinkServer.attend.Goals as goal

pub attend_seat-requires-clause-served : goal.attend_seat-requires-clause-served
attend_seat-requires-clause-served g c =
    let h = c.requires.way in
    let w = h.2.2 in
    (h.0, h.1, (items_of w.given, w.taken ++ pending_of c.args.conn.now, w.serves))

pub returns-clause-attended : goal.returns-clause-attended
returns-clause-attended g c = λ since is start used w.
    let after = c.attend_seat.new in
    let front = c.args.seat.now.front in
    handled c.args.self.now.shared.now.setup c.args.seat.now.number (log_since since front)
    (log_since since after.seat.front) start used c.args.conn.now after.conn w
    (since_prefix since front after.seat.front is c.attend_seat.ensures.seen)
    (subst (λ (n : ℕ). HasItsPeer (past_since since after.seat.front) n after.conn)
    (ap (λ (seat : NodeSeat). seat.number) c.attend_seat.ensures.same)
    (c.attend_seat.ensures.peer since is w.peer)) c.copied.result
    (c.attend_seat.ensures.attended since is (items_of w.given)
    (w.taken ++ pending_of c.args.conn.now) w.serves) (c.copied.ensures ∙ c.ended.ensures)
