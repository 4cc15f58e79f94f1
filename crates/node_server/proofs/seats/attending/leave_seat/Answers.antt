use Rattle.std.proofs.Common.{ℕ}
use Rattle.conn_service.proofs.Going.{served_placed}
use Rattle.node_server.specs.Seats.Serving.{shared_setup}
use Rattle.node_server.proofs.OfSeats.Left.{running_free, left_parting, left_shut}
use Rattle.node_server.proofs.OfSeats.Sending.{cut_sends}
use Rattle.node_server.specs.Seats.Peers.{HasItsPeer}
use Rattle.node_server.proofs.OfSeats.Behind.{SeatLog, of_seat}
use Rattle.node_server.proofs.OfSeats.Peers.{given_peer, shut_peer}
use Rattle.node_server.proofs.OfSeats.Since.{past_since}
use Rattle.node_server.proofs.seats.attending.leave_seat.Goals as goal

pub give_up-requires-clause-free : goal.give_up-requires-clause-free
give_up-requires-clause-free g c = running_free c.args.conn.now.progress c.requires.running

pub give_up-requires-clause-placed : goal.give_up-requires-clause-placed
give_up-requires-clause-placed g c = served_placed c.args.shared.now.setup.centre
    (past_since c.requires.served.0 c.args.seat.now.front) c.args.seat.now.number c.args.conn.now
    c.requires.served.2

pub close-requires-clause-left : goal.close-requires-clause-left
close-requires-clause-left g c =
    let h = c.requires.served in (
      h.0,
      h.1,
      left_parting c.args.shared.now.setup.centre (past_since h.0 c.args.seat.now.front)
          c.args.seat.now.number c.args.end c.args.conn.now c.give_up.new.self c.requires.running
          c.give_up.ensures.stands c.give_up.ensures.left h.2,
    )

pub returns-clause-left : goal.returns-clause-left
returns-clause-left g c = λ since is items said s.
    left_shut (shared_setup c.args.shared.now.setup) (past_since since c.args.seat.now.front)
    (past_since since c.close.new.seat.front) c.args.seat.now.number items said c.args.end
    c.args.conn.now
    c.give_up.new.self c.close.new.conn c.requires.end c.requires.rests c.requires.running
    c.give_up.ensures.stands c.give_up.ensures.left c.close.ensures.closes (c.close.ensures.shuts
    since is) s

pub returns-clause-sends : goal.returns-clause-sends
returns-clause-sends g c = λ since is items said s.
    cut_sends (shared_setup c.args.shared.now.setup) c.args.seat.now.number items said c.args.end
    c.args.conn.now (past_since since c.close.new.seat.front) c.close.new.conn
    (returns-clause-left g c since is items said s)

pub returns-clause-peer : goal.returns-clause-peer
returns-clause-peer g c = λ since is h.
    let past = past_since since c.args.seat.now.front in
    let who = c.args.seat.now.number in
    of_seat (λ (n : ℕ) (f : SeatLog). HasItsPeer (past_since since f) n c.close.new.conn)
    c.args.seat.now c.close.new.seat c.close.ensures.same
    (shut_peer past (past_since since c.close.new.seat.front) who c.give_up.new.self
    c.close.new.conn (c.close.ensures.shuts since is) c.close.ensures.peer
    (given_peer past who c.args.end c.args.conn.now c.give_up.new.self c.give_up.ensures.left h))
