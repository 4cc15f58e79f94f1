use Rattle.std.proofs.Common.{Option, ap, ◌∙◌, is_some}
use Rattle.sbo_device.specs.declared.key.Key.{Key}
use Rattle.conn_service.proofs.Going.{close_placed, told_ok, close_leaves}
use Rattle.node_server.specs.Seats.Serving.{shared_setup}
use Rattle.node_server.proofs.OfSeats.Since.{past_since, seat_since, came_since}
use Rattle.node_server.proofs.OfSeats.Closing.{asked_answer, asked_shut, asked_unrefused}
use Rattle.node_server.proofs.OfSeats.Over.{closed_over}
use Rattle.node_server.proofs.OfSeats.Peers.{closed_keeps}
use Rattle.node_server.proofs.seats.attending.Attendant.take_close.Goals as goal

pub tell-told-requires-clause-right : goal.tell-told-requires-clause-right
tell-told-requires-clause-right g c =
    let h = c.requires.asks in
    asked_answer (shared_setup c.args.self.now.shared.now.setup)
    (past_since h.0 c.args.seat.now.front) (past_since h.0 c.call.new.seat.front)
    c.args.seat.now.number c.args.event c.in-Ok.answer c.args.conn.now h.2
    (came_since c.args.self.now.shared.now.setup c.args.seat.now c.args.event _
    c.call.new.seat.front h.0 h.1 c.in-Ok.ensures.one)

pub tell-told-requires-clause-placed : goal.tell-told-requires-clause-placed
tell-told-requires-clause-placed g c = close_placed c.requires.asks.2.6

pub returns-in-Ok-clause-shuts : goal.returns-in-Ok-clause-shuts
returns-in-Ok-clause-shuts g c = λ since is.
    let h = c.requires.asks in
    let a = h.2.6 in
    let front = c.args.seat.now.front in
    let who = c.args.seat.now.number in
    asked_shut (shared_setup c.args.self.now.shared.now.setup) (past_since since front)
    (past_since since c.call.new.seat.front) who c.args.event c.in-Ok.answer a.event_is
    (ap (λ (k : Option Key). is_some k) (seat_since since h.0 front who is h.1) ∙ a.seat)
    (came_since c.args.self.now.shared.now.setup c.args.seat.now c.args.event _
    c.call.new.seat.front since is c.in-Ok.ensures.one)

pub returns-in-Ok-clause-closes : goal.returns-in-Ok-clause-closes
returns-in-Ok-clause-closes g c = λ past whole end standing items said first a.
    closed_over (shared_setup c.args.self.now.shared.now.setup) past whole end standing
    c.args.seat.now.number items said c.args.event c.in-Ok.answer first c.args.conn.now
    c.tell-told.new.self c.tell-told.ensures.stands
    (told_ok _ c.tell-told.result
    (c.tell-told.ensures.left (close_leaves c.args.conn.now end a.progress))
    c.tell-told.ensures.told) a

pub returns-in-Err-clause-shuts : goal.returns-in-Err-clause-shuts
returns-in-Err-clause-shuts g c =
    let h = c.requires.asks in
    absurd (asked_unrefused (shared_setup c.args.self.now.shared.now.setup)
    (past_since h.0 c.args.seat.now.front) (past_since h.0 c.call.new.seat.front)
    c.args.seat.now.number c.args.event c.in-Err.field-0 c.args.conn.now h.2
    (came_since c.args.self.now.shared.now.setup c.args.seat.now c.args.event _
    c.call.new.seat.front h.0 h.1 c.in-Err.ensures.one))

pub returns-in-Err-clause-closes : goal.returns-in-Err-clause-closes
returns-in-Err-clause-closes g c = λ past whole end standing items said first a.
    let h = c.requires.asks in
    absurd (asked_unrefused (shared_setup c.args.self.now.shared.now.setup)
    (past_since h.0 c.args.seat.now.front) (past_since h.0 c.call.new.seat.front)
    c.args.seat.now.number c.args.event c.in-Err.field-0 c.args.conn.now h.2
    (came_since c.args.self.now.shared.now.setup c.args.seat.now c.args.event _
    c.call.new.seat.front h.0 h.1 c.in-Err.ensures.one))

pub returns-in-Ok-clause-peer : goal.returns-in-Ok-clause-peer
returns-in-Ok-clause-peer g c =
    let h = c.requires.asks in
    let a = h.2 in
    closed_keeps c.args.self.now.shared.now.setup.centre (past_since h.0 c.args.seat.now.front)
    c.args.seat.now.number c.args.event c.in-Ok.answer c.args.conn.now c.tell-told.new.self a
    (told_ok _ c.tell-told.result
    (c.tell-told.ensures.left (close_leaves c.args.conn.now a.1 a.6.progress))
    c.tell-told.ensures.told)

pub returns-in-Err-clause-peer : goal.returns-in-Err-clause-peer
returns-in-Err-clause-peer g c =
    let h = c.requires.asks in
    absurd (asked_unrefused (shared_setup c.args.self.now.shared.now.setup)
    (past_since h.0 c.args.seat.now.front) (past_since h.0 c.call.new.seat.front)
    c.args.seat.now.number c.args.event c.in-Err.field-0 c.args.conn.now h.2
    (came_since c.args.self.now.shared.now.setup c.args.seat.now c.args.event _
    c.call.new.seat.front h.0 h.1 c.in-Err.ensures.one))
