use Rattle.std.proofs.Common.{ℕ, ◌∙◌}
use Rattle.conn_service.proofs.Going.{served_free, served_placed}
use Rattle.conn_service.proofs.Memory.{given_parting, given_placed, idle_free, runs_on}
use Rattle.node_server.specs.Seats.Serving.{shared_setup}
use Rattle.node_server.proofs.OfSeats.Wanting.{wants_found, given_shut}
use Rattle.node_server.specs.Seats.Peers.{HasItsPeer}
use Rattle.node_server.proofs.OfSeats.Behind.{SeatLog, of_seat}
use Rattle.node_server.proofs.OfSeats.Peers.{stage_keeps, given_peer, shut_peer}
use Rattle.node_server.proofs.OfSeats.Since.{past_since}
use Rattle.node_server.proofs.seats.attending.Attendant.wanted.Goals as goal

pub want-requires-clause-free : goal.want-requires-clause-free
want-requires-clause-free g c = served_free c.args.self.now.shared.now.setup.centre
    (past_since c.requires.served.0 c.args.seat.now.front) c.args.seat.now.number c.args.conn.now
    c.requires.served.2

pub want-requires-clause-placed : goal.want-requires-clause-placed
want-requires-clause-placed g c = served_placed c.args.self.now.shared.now.setup.centre
    (past_since c.requires.served.0 c.args.seat.now.front) c.args.seat.now.number c.args.conn.now
    c.requires.served.2

pub give_up-requires-clause-free : goal.give_up-requires-clause-free
give_up-requires-clause-free g c = idle_free c.want.new.self.progress c.in-Err.ensures.again

pub give_up-requires-clause-placed : goal.give_up-requires-clause-placed
give_up-requires-clause-placed g c = given_placed c.args.self.now.shared.now.setup.centre
    (past_since c.requires.served.0 c.args.seat.now.front) c.args.seat.now.number c.args.conn.now
    c.want.new.self c.in-Err.ensures.err c.requires.served.2

pub close-requires-clause-left : goal.close-requires-clause-left
close-requires-clause-left g c =
    let h = c.requires.served in (
      h.0,
      h.1,
      given_parting c.args.self.now.shared.now.setup.centre
          (past_since h.0 c.args.seat.now.front) c.args.seat.now.number c.args.conn.now
          c.want.new.self c.give_up.new.self
          (runs_on c.args.conn.now.progress c.in-Err.ensures.over) c.in-Err.ensures.err
          c.in-Err.ensures.again c.want.ensures.stage c.give_up.ensures.stands
          c.give_up.ensures.left h.2,
    )

pub returns-in-Ok-clause-wants : goal.returns-in-Ok-clause-wants
returns-in-Ok-clause-wants g c = λ since is items said s.
    wants_found (shared_setup c.args.self.now.shared.now.setup) (past_since since
    c.args.seat.now.front)
    c.args.seat.now.number items said c.in-Ok.event c.args.conn.now c.want.new.self
    c.want.ensures.stage c.in-Ok.ensures.ok s

pub returns-in-Err-clause-wants : goal.returns-in-Err-clause-wants
returns-in-Err-clause-wants g c = λ since is items said s.
    given_shut (shared_setup c.args.self.now.shared.now.setup) (past_since since
    c.args.seat.now.front)
    (past_since since c.close.new.seat.front) c.args.seat.now.number items said c.args.conn.now
    c.want.new.self c.give_up.new.self c.close.new.conn
    (runs_on c.args.conn.now.progress c.in-Err.ensures.over) c.in-Err.ensures.err
    c.in-Err.ensures.again c.want.ensures.stage c.give_up.ensures.stands c.give_up.ensures.left
    c.close.ensures.closes (c.close.ensures.shuts since is) s

pub returns-in-Ok-clause-peer : goal.returns-in-Ok-clause-peer
returns-in-Ok-clause-peer g c = λ since is h.
    stage_keeps c.args.conn.now c.want.new.self c.want.ensures.stage ∙ h

pub returns-in-Err-clause-peer : goal.returns-in-Err-clause-peer
returns-in-Err-clause-peer g c = λ since is h.
    let past = past_since since c.args.seat.now.front in
    let who = c.args.seat.now.number in
    of_seat (λ (n : ℕ) (f : SeatLog). HasItsPeer (past_since since f) n c.close.new.conn)
    c.args.seat.now c.close.new.seat c.close.ensures.same
    (shut_peer past (past_since since c.close.new.seat.front) who c.give_up.new.self
    c.close.new.conn (c.close.ensures.shuts since is) c.close.ensures.peer
    (given_peer past who _ c.want.new.self c.give_up.new.self c.give_up.ensures.left
    (stage_keeps c.args.conn.now c.want.new.self c.want.ensures.stage ∙ h)))
