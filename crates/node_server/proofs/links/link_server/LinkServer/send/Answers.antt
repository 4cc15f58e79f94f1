use Rattle.std.proofs.Common.{subst}
use Rattle.node_server.specs.Seats.Since.{log_since}
use Rattle.node_server.specs.declared.links.sending.SendsEnd.{SendsEnd}
use Rattle.node_server.proofs.OfLinks.Finished.{SendsOut, ended_served, to_send, all_taken, none_taken}
use Rattle.node_server.proofs.OfLinks.Finished.{sends_failed}
use Rattle.node_server.proofs.links.link_server.LinkServer.send.Goals as goal

pub returns-in-Some-clause-turns : goal.returns-in-Some-clause-turns
returns-in-Some-clause-turns g c = λ since is start h.
    ended_served c.args.self.now.shared.now.setup c.args.seat.now.number
    (log_since since c.args.seat.now.front) start (g.L.Link.told c.args.link.now)
    (g.L.Link.told c.send_pending-sends.new.link) c.args.conn.now
    c.send_pending-sends.new.conn c.args.ended c.in-Some.end c.send_pending-sends.result
    c.in-Some.is c.send_pending-sends.ensures h

pub returns-in-AllTaken-clause-turns : goal.returns-in-AllTaken-clause-turns
returns-in-AllTaken-clause-turns g c = λ since is start h.
    let setup = c.args.self.now.shared.now.setup in
    let who = c.args.seat.now.number in
    let log = log_since since c.args.seat.now.front in
    let used = g.L.Link.told c.args.link.now in
    let after = g.L.Link.told c.send_pending-sends.new.link in
    let v = c.args.conn.now in
    let new = c.send_pending-sends.new.conn in
    all_taken setup who log start used after v new
    (to_send setup who log start used after v new c.args.ended c.in-None.is h)
    (subst (λ (end : SendsEnd). SendsOut used after v new end) c.in-AllTaken.is
    c.send_pending-sends.ensures)

pub overflow-requires-clause-stuck : goal.overflow-requires-clause-stuck
overflow-requires-clause-stuck g c =
    let setup = c.args.self.now.shared.now.setup in
    let who = c.args.seat.now.number in
    let used = g.L.Link.told c.args.link.now in
    let after = g.L.Link.told c.send_pending-sends.new.link in
    let v = c.args.conn.now in
    let new = c.send_pending-sends.new.conn in
    let h = c.requires.sends in
    let log = log_since h.0 c.args.seat.now.front in (
      h.0,
      h.1,
      (
        h.2.0,
        after,
        none_taken setup who log h.2.0 used after v new
            (to_send setup who log h.2.0 used after v new c.args.ended c.in-None.is h.2.1)
            (subst (λ (end : SendsEnd). SendsOut used after v new end) c.in-NoneTaken.is
            c.send_pending-sends.ensures),
      ),
    )

pub returns-in-NoneTaken-clause-turns : goal.returns-in-NoneTaken-clause-turns
returns-in-NoneTaken-clause-turns g c = λ since is start h.
    let setup = c.args.self.now.shared.now.setup in
    let who = c.args.seat.now.number in
    let log = log_since since c.args.seat.now.front in
    let used = g.L.Link.told c.args.link.now in
    let after = g.L.Link.told c.send_pending-sends.new.link in
    let v = c.args.conn.now in
    let new = c.send_pending-sends.new.conn in
    c.overflow.ensures.turns since is start after (none_taken setup who log start used after v new
    (to_send setup who log start used after v new c.args.ended c.in-None.is h)
    (subst (λ (end : SendsEnd). SendsOut used after v new end) c.in-NoneTaken.is
    c.send_pending-sends.ensures))

pub leave_for-requires-clause-leaves : goal.leave_for-requires-clause-leaves
leave_for-requires-clause-leaves g c =
    let setup = c.args.self.now.shared.now.setup in
    let who = c.args.seat.now.number in
    let used = g.L.Link.told c.args.link.now in
    let after = g.L.Link.told c.send_pending-sends.new.link in
    let v = c.args.conn.now in
    let new = c.send_pending-sends.new.conn in
    let h = c.requires.sends in
    let log = log_since h.0 c.args.seat.now.front in (
      h.0,
      h.1,
      (
        h.2.0,
        after,
        sends_failed setup who log h.2.0 used after v new
            (to_send setup who log h.2.0 used after v new c.args.ended c.in-None.is h.2.1)
            (subst (λ (end : SendsEnd). SendsOut used after v new end) c.in-Failed.is
            c.send_pending-sends.ensures),
      ),
    )

pub returns-in-Failed-clause-turns : goal.returns-in-Failed-clause-turns
returns-in-Failed-clause-turns g c = λ since is start h.
    let setup = c.args.self.now.shared.now.setup in
    let who = c.args.seat.now.number in
    let log = log_since since c.args.seat.now.front in
    let used = g.L.Link.told c.args.link.now in
    let after = g.L.Link.told c.send_pending-sends.new.link in
    let v = c.args.conn.now in
    let new = c.send_pending-sends.new.conn in
    c.leave_for.ensures.left since is start after
    (sends_failed setup who log start used after v new
    (to_send setup who log start used after v new c.args.ended c.in-None.is h)
    (subst (λ (end : SendsEnd). SendsOut used after v new end) c.in-Failed.is
    c.send_pending-sends.ensures))
