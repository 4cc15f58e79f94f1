use Rattle.std.proofs.Common.{[], subst, ◌∙◌}
use Rattle.bilateral.specs.Rows.{CentreRows}
use Rattle.tase_conn.specs.Places.{ConnStandsAt}
use Rattle.node_server.specs.Seats.Since.{since_here, log_since}
use Rattle.node_server.proofs.OfSeats.Since.{unused_number, begins_here, here_none}
use Rattle.node_server.proofs.OfLinks.Begun.{none_given, begun_turn}
use Rattle.node_server.proofs.links.link_server.LinkServer.serve.Goals as goal

pub returns-in_default-clause-serves : goal.returns-in_default-clause-serves
returns-in_default-clause-serves g c = λ other unused.
    let seat = c.args.seat.now in
    none_given c.args.self.now.shared.now.setup seat.number
    (log_since (since_here seat other) seat.front) (g.L.Link.told c.args.link.now)
    (here_none seat other unused)

pub returns-in_default-clone-clause-serves : goal.returns-in_default-clone-clause-serves
returns-in_default-clone-clause-serves g c = λ other unused.
    let seat = c.args.seat.now in
    none_given c.args.self.now.shared.now.setup seat.number
    (log_since (since_here seat other) seat.front) (g.L.Link.told c.args.link.now)
    (here_none seat other unused)

pub returns-in_default-new-clause-serves : goal.returns-in_default-new-clause-serves
returns-in_default-new-clause-serves g c = λ other unused.
    let seat = c.args.seat.now in
    none_given c.args.self.now.shared.now.setup seat.number
    (log_since (since_here seat other) seat.front) (g.L.Link.told c.args.link.now)
    (here_none seat other unused)

pub take_turns-requires-clause-turn : goal.take_turns-requires-clause-turn
take_turns-requires-clause-turn g c =
    let seat = c.args.seat.now in
    let u = unused_number seat.front in (
      since_here seat u.0,
      begins_here seat u.0 c.requires.closed u.1,
      (
        g.L.Link.told c.args.link.now,
        begun_turn c.args.self.now.shared.now.setup seat.number
            (log_since (since_here seat u.0) seat.front) (g.L.Link.told c.args.link.now)
            (here_none seat u.0 u.1) c.in-Ok-new.conn
            (subst (λ (rows : CentreRows). ConnStandsAt rows [] [] [] c.in-Ok-new.conn)
            (c.in-Ok-clone.ensures.cases ∙ c.requires.centre) c.in-Ok-new.ensures.start)
            c.in-Ok-new.ensures.resting c.in-Ok-new.ensures.running c.in-Ok-new.ensures.silent,
      ),
    )

pub returns-clause-serves : goal.returns-clause-serves
returns-clause-serves g c = λ other unused.
    let seat = c.args.seat.now in
    c.take_turns.ensures.serves (since_here seat other)
    (begins_here seat other c.requires.closed unused) (g.L.Link.told c.args.link.now)
    (begun_turn c.args.self.now.shared.now.setup seat.number
    (log_since (since_here seat other) seat.front) (g.L.Link.told c.args.link.now)
    (here_none seat other unused) c.in-Ok-new.conn
    (subst (λ (rows : CentreRows). ConnStandsAt rows [] [] [] c.in-Ok-new.conn)
    (c.in-Ok-clone.ensures.cases ∙ c.requires.centre) c.in-Ok-new.ensures.start)
    c.in-Ok-new.ensures.resting c.in-Ok-new.ensures.running c.in-Ok-new.ensures.silent)
