use Rattle.std.proofs.Common.{ℕ, List, ◌≤◌, length, ap, subst}
use Rattle.tase_conn.specs.Answering.{limit_at}
use Rattle.node_server.specs.Seats.Since.{log_since}
use Rattle.node_server.proofs.OfLinks.Overflown.{stuck_placed, waits_on, overflown}
use Rattle.node_server.proofs.links.link_server.LinkServer.overflow.Goals as goal

pub limit-limit-requires : goal.limit-limit-requires
limit-limit-requires g c =
    let h = c.requires.stuck in
    stuck_placed c.args.self.now.shared.now.setup c.args.seat.now.number
    (log_since h.0 c.args.seat.now.front) h.2.0 h.2.1 c.args.conn.now h.2.2

pub returns-then-pending-limit-clause-turns : goal.returns-then-pending-limit-clause-turns
returns-then-pending-limit-clause-turns g c = λ since is start used t.
    waits_on c.args.self.now.shared.now.setup c.args.seat.now.number
    (log_since since c.args.seat.now.front) start used c.args.conn.now t
    (subst (λ (l : List ℕ). length l ≤ limit_at c.args.conn.now.rows c.args.conn.now.stage)
    c.pending.ensures
    (subst (λ (n : ℕ). length c.pending.result.now ≤ n) c.limit-limit.ensures
    c.if-pending-limit.true))

pub leave_for-requires-clause-leaves : goal.leave_for-requires-clause-leaves
leave_for-requires-clause-leaves g c =
    let h = c.requires.stuck in (
      h.0,
      h.1,
      (
        h.2.0,
        h.2.1,
        overflown c.args.self.now.shared.now.setup c.args.seat.now.number
            (log_since h.0 c.args.seat.now.front) h.2.0 h.2.1 c.args.conn.now h.2.2
            (length c.pending.result.now) c.limit-limit.result (ap length c.pending.ensures)
            c.limit-limit.ensures c.if-pending-limit.false,
      ),
    )

pub returns-clause-turns : goal.returns-clause-turns
returns-clause-turns g c = λ since is start used t.
    c.leave_for.ensures.left since is start used
    (overflown c.args.self.now.shared.now.setup c.args.seat.now.number
    (log_since since c.args.seat.now.front) start used c.args.conn.now t
    (length c.pending.result.now) c.limit-limit.result (ap length c.pending.ensures)
    c.limit-limit.ensures c.if-pending-limit.false)
