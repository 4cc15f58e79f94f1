use Rattle.std.proofs.Common.{refl, sym, ◌∙◌}
use Rattle.tase_conn.specs.Map.Inputs.{idle}
use Rattle.tase_conn.specs.contracts.conn.Conn.{the_view}
use Rattle.tase_conn.proofs.Placing.{dropped, idle_view}
use Rattle.tase_conn.proofs.conn.Conn.idle_in.Goals as goal

pub returns-else-is_running-clause-stands : goal.returns-else-is_running-clause-stands
returns-else-is_running-clause-stands c = λ rows items told turns s.
    dropped rows items told turns idle c.args.self.now
    (sym c.is_running.ensures ∙ c.if-is_running.false) s

pub returns-then-is_running-clause-stands : goal.returns-then-is_running-clause-stands
returns-then-is_running-clause-stands c = λ rows items told turns s.
    idle_view rows items told turns idle (the_view c.self.inside) c.args.self.now c.self.view_is
    refl c.requires.resting (sym c.is_running.ensures ∙ c.if-is_running.true) s
