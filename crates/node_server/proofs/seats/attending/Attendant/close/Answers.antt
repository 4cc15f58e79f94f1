use Rattle.std.proofs.Common.{Option, ap, subst, ◌∙◌, is_some}
use Rattle.sbo_device.specs.declared.key.Key.{Key}
use Rattle.tase_views.specs.declared.event.EventKind.{EventKind}
use Rattle.tase_conn.specs.Wanting.{Wants, WantsSo}
use Rattle.conn_service.proofs.Going.{parting_free, parting_placed, parting_wants, parting_over}
use Rattle.conn_service.proofs.Going.{wants_close}
use Rattle.node_server.proofs.OfSeats.Closing.{unasked_closes, unasked_none}
use Rattle.node_server.proofs.OfSeats.Shut.{none_shut}
use Rattle.node_server.proofs.OfSeats.Peers.{stage_keeps}
use Rattle.node_server.proofs.OfSeats.Since.{past_since, seat_since}
use Rattle.node_server.proofs.seats.attending.Attendant.close.Goals as goal

pub wanted_close-requires : goal.wanted_close-requires
wanted_close-requires g c =
    let rows = c.args.self.now.shared.now.setup.centre in
    let past = past_since c.requires.left.0 c.args.seat.now.front in
    let who = c.args.seat.now.number in
    let p = c.requires.left.2 in
    record {
      over = parting_over c.args.conn.now.progress p.3 p.5.waits;
      free = parting_free rows past who c.args.conn.now p;
      placed = parting_placed rows past who c.args.conn.now p;
    }

pub take_close-requires-clause-asks : goal.take_close-requires-clause-asks
take_close-requires-clause-asks g c =
    let h = c.requires.left in (
      h.0,
      h.1,
      parting_wants c.args.self.now.shared.now.setup.centre
          (past_since h.0 c.args.seat.now.front) c.args.seat.now.number c.in-Some.event
          c.args.conn.now c.wanted_close.new.conn h.2
          (subst (λ (e : Option EventKind). WantsSo e c.args.conn.now c.wanted_close.new.conn)
          c.in-Some.is c.wanted_close.ensures.wants),
    )

pub returns-in-Some-clause-closes : goal.returns-in-Some-clause-closes
returns-in-Some-clause-closes g c = λ past whole end standing items said h.
    let rows = c.args.self.now.shared.now.setup.centre in
    c.take_close.ensures.closes past whole end standing items said c.args.conn.now
    (wants_close whole end standing rows past c.args.seat.now.number items said c.in-Some.event
    c.args.conn.now c.wanted_close.new.conn h
    (subst (λ (e : Option EventKind). Wants rows items h.told h.turns e c.args.conn.now
    c.wanted_close.new.conn) c.in-Some.is
    (c.wanted_close.ensures.wants rows items h.told h.turns h.stands)))

pub returns-in-None-clause-closes : goal.returns-in-None-clause-closes
returns-in-None-clause-closes g c =
    unasked_closes c.args.self.now.shared.now.setup.centre c.args.seat.now.number c.args.conn.now
    c.wanted_close.new.conn
    (subst (λ (e : Option EventKind). WantsSo e c.args.conn.now c.wanted_close.new.conn)
    c.in-None.is c.wanted_close.ensures.wants)

pub returns-in-None-clause-shuts : goal.returns-in-None-clause-shuts
returns-in-None-clause-shuts g c = λ since is.
    let h = c.requires.left in
    let front = c.args.seat.now.front in
    let who = c.args.seat.now.number in
    none_shut (past_since since front) who
    (ap (λ (k : Option Key). is_some k) (seat_since since h.0 front who is h.1)
    ∙ unasked_none c.args.self.now.shared.now.setup.centre (past_since h.0 front) who
    c.args.conn.now c.wanted_close.new.conn
    (subst (λ (e : Option EventKind). WantsSo e c.args.conn.now c.wanted_close.new.conn)
    c.in-None.is c.wanted_close.ensures.wants) h.2)

pub returns-in-Some-clause-peer : goal.returns-in-Some-clause-peer
returns-in-Some-clause-peer g c = c.take_close.ensures.peer
    ∙ stage_keeps c.args.conn.now c.wanted_close.new.conn c.wanted_close.ensures.stage

pub returns-in-None-clause-peer : goal.returns-in-None-clause-peer
returns-in-None-clause-peer g c =
    stage_keeps c.args.conn.now c.wanted_close.new.conn c.wanted_close.ensures.stage
