use Rattle.tase_conn.specs.contracts.conn.Conn.{the_view}
use Rattle.std.proofs.Common.{◌≤◌, subst, sym, length}
use Rattle.tase_conn.specs.Talking.{Talking, next_pending}
use Rattle.tase_conn.proofs.Placing.{front_sent, farewell_sent, empty_out}
use Rattle.tase_conn.proofs.conn.Conn.sent.Goals as goal

pub returns-else-is_empty-clause-stands : goal.returns-else-is_empty-clause-stands
returns-else-is_empty-clause-stands c = λ rows items told turns s.
    front_sent rows items told turns (the_view c.self.inside) c.args.self.now
    c.cut-else-is_empty.new.octets.items c.self.view_is s

pub returns-then-is_empty-clause-stands : goal.returns-then-is_empty-clause-stands
returns-then-is_empty-clause-stands c = λ rows items told turns s.
    farewell_sent rows items told turns (the_view c.self.inside) c.args.self.now
    c.cut.new.octets c.args.n c.self.view_is
    (empty_out c.self.inside.out c.is_empty.result c.is_empty.ensures c.if-is_empty.true)
    (subst (λ (v : Talking). c.args.n ≤ length (next_pending v)) (sym c.self.view_is) c.requires)
    c.if-n-eq0.false s
