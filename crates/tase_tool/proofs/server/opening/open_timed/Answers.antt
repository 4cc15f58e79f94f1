use Rattle.std.proofs.Common.{inr}
use Rattle.tase_tool.proofs.server.opening.open_timed.Goals as goal

pub returns-in-Some : goal.returns-in-Some
returns-in-Some g c =
    (g.O.Outside.told c.clock.new.self, c.in_ok-clock.ensures, c.in-Some.ensures)

pub returns-in-None : goal.returns-in-None
returns-in-None g c = inr (
  g.O.Clock.Clock.told c.in_ok-clock.clock,
  g.O.Outside.told c.clock.new.self,
  g.O.Outside.told c.open_out.new.self,
  c.in_ok-clock.ensures,
  c.in-None.ensures,
  c.close_clock.ensures,
)
