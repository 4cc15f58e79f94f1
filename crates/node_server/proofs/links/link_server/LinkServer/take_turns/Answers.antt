use Rattle.std.proofs.Common.{[], refl, Some, None, arith}
use Rattle.std.proofs.lemmas.List.{append-nil}
use Rattle.node_server.specs.Seats.Since.{log_since}
use Rattle.node_server.proofs.OfSeats.Behind.{at_twice, prefix_then}
use Rattle.node_server.proofs.OfSeats.Since.{since_on}
use Rattle.node_server.proofs.OfLinks.TurnsOn.{turn_here, turn_on}
use Rattle.node_server.proofs.links.link_server.LinkServer.take_turns.Goals as goal

pub loop-init : goal.loop-init
loop-init g c = (
  refl,
  ([], append-nil c.args.seat.now.front),
  c.requires.some,
  c.requires.few,
  λ since is start t. t,
)

pub take_turn-requires-clause-turn : goal.take_turn-requires-clause-turn
take_turn-requires-clause-turn g c =
    let h = c.requires.turn in
    let seat = c.loop.seat in (
      h.0,
      since_on h.0 c.args.seat.now.front seat.front c.loop.invariant.1 h.1,
      (
        h.2.0,
        turn_here c.args.self.now.shared.now.setup c.args.seat.now seat c.loop.invariant.0
            (log_since h.0 seat.front) h.2.0 (g.L.Link.told c.loop.link) c.loop.conn
            (c.loop.invariant.4 h.0 h.1 h.2.0 h.2.1),
      ),
    )

pub loop-preserved : goal.loop-preserved
loop-preserved g c = (
  at_twice c.args.seat.now c.loop.seat c.take_turn.new.seat c.loop.invariant.0
      c.take_turn.ensures.same,
  prefix_then c.args.seat.now.front c.loop.seat.front c.take_turn.new.seat.front
      c.loop.invariant.1 c.take_turn.ensures.seen,
  omega arith,
  omega arith,
  λ since is start t.
      let first = c.args.seat.now in
      let seat = c.loop.seat in
      let on = since_on since first.front seat.front c.loop.invariant.1 is in
      turn_on c.args.self.now.shared.now.setup first seat c.loop.invariant.0
      (log_since since seat.front) (log_since since c.take_turn.new.seat.front) start
      (g.L.Link.told c.loop.link) (g.L.Link.told c.take_turn.new.link) c.loop.conn
      c.take_turn.new.conn None (c.in_default.ensures.turns since on)
      (c.loop.invariant.4 since is start t),
)

pub returns-in-Some-take_turn-clause-same : goal.returns-in-Some-take_turn-clause-same
returns-in-Some-take_turn-clause-same g c = at_twice c.args.seat.now c.loop.seat
    c.take_turn.new.seat c.loop.invariant.0 c.take_turn.ensures.same

pub returns-in-Some-take_turn-clause-seen : goal.returns-in-Some-take_turn-clause-seen
returns-in-Some-take_turn-clause-seen g c = prefix_then c.args.seat.now.front c.loop.seat.front
    c.take_turn.new.seat.front c.loop.invariant.1 c.take_turn.ensures.seen

pub returns-in-Some-take_turn-clause-serves : goal.returns-in-Some-take_turn-clause-serves
returns-in-Some-take_turn-clause-serves g c = λ since is start t.
    let first = c.args.seat.now in
    let seat = c.loop.seat in
    let on = since_on since first.front seat.front c.loop.invariant.1 is in
    turn_on c.args.self.now.shared.now.setup first seat c.loop.invariant.0
    (log_since since seat.front) (log_since since c.take_turn.new.seat.front) start
    (g.L.Link.told c.loop.link) (g.L.Link.told c.take_turn.new.link) c.loop.conn
    c.take_turn.new.conn (Some c.in-Some-take_turn.end)
    (c.in-Some-take_turn.ensures.turns since on) (c.loop.invariant.4 since is start t)
