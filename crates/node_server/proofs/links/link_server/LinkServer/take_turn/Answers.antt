use Rattle.node_server.specs.Seats.Since.{log_since}
use Rattle.node_server.proofs.OfSeats.Behind.{at_twice, prefix_then}
use Rattle.node_server.proofs.OfSeats.Since.{since_on}
use Rattle.node_server.proofs.OfLinks.TurnsOn.{send_here, sent_on}
use Rattle.node_server.proofs.links.link_server.LinkServer.take_turn.Goals as goal

pub send-requires-clause-sends : goal.send-requires-clause-sends
send-requires-clause-sends g c =
    let h = c.requires.turn in
    let next = c.receive_turn.new.seat in (
      h.0,
      since_on h.0 c.args.seat.now.front next.front c.receive_turn.ensures.seen h.1,
      (
        h.2.0,
        send_here c.args.self.now.shared.now.setup c.args.seat.now next
            c.receive_turn.ensures.same (log_since h.0 next.front) c.in-ToSend.ended h.2.0
            (g.L.Link.told c.receive_turn.new.link) c.receive_turn.new.conn
            (c.in-ToSend.ensures.comes h.0 h.1 h.2.0 h.2.1),
      ),
    )

pub returns-in-ToSend-clause-same : goal.returns-in-ToSend-clause-same
returns-in-ToSend-clause-same g c = at_twice c.args.seat.now c.receive_turn.new.seat
    c.send.new.seat c.receive_turn.ensures.same c.send.ensures.same

pub returns-in-ToSend-clause-seen : goal.returns-in-ToSend-clause-seen
returns-in-ToSend-clause-seen g c = prefix_then c.args.seat.now.front
    c.receive_turn.new.seat.front c.send.new.seat.front c.receive_turn.ensures.seen
    c.send.ensures.seen

pub returns-in-ToSend-clause-turns : goal.returns-in-ToSend-clause-turns
returns-in-ToSend-clause-turns g c = λ since is start t.
    let first = c.args.seat.now in
    let next = c.receive_turn.new.seat in
    let on = since_on since first.front next.front c.receive_turn.ensures.seen is in
    sent_on c.args.self.now.shared.now.setup first next c.receive_turn.ensures.same
    (log_since since next.front) c.in-ToSend.ended (log_since since c.send.new.seat.front) start
    (g.L.Link.told c.receive_turn.new.link) (g.L.Link.told c.send.new.link)
    c.receive_turn.new.conn c.send.new.conn c.send.result (c.send.ensures.turns since on)
    (c.in-ToSend.ensures.comes since is start t)
