use Rattle.node_server.specs.Seats.Serving.{shared_setup}
use Rattle.node_server.proofs.OfSeats.Sending.{attends_sends}
use Rattle.node_server.proofs.OfSeats.Since.{past_since}
use Rattle.node_server.proofs.seats.attending.attend_seat.Goals as goal

pub returns-clause-sends : goal.returns-clause-sends
returns-clause-sends g c = λ since is items said s.
    attends_sends (shared_setup c.args.shared.now.setup) c.args.seat.now.number items said
    c.args.conn.now (past_since since c.attend.new.seat.front) c.attend.new.conn
    (c.attend.ensures.attended since is items said s)
