use Rattle.std.proofs.Common.{refl, ap, ◌∙◌}
use Rattle.share_turn.specs.Public.{at}
use Rattle.node_server.specs.NodeCalls.{NodeSeat}
use Rattle.node_server.proofs.Ticked.{none-told, ticks-on}
use Rattle.node_server.proofs.ticking.tick_on.Goals as goal

pub loop-init : goal.loop-init
loop-init g c = (
  refl,
  none-told c.args.shared.now.setup c.args.seat.now
      (g.C.Clock.told c.args.clock.now) (g.C.Clock.told c.args.clock.now),
)

pub returns-in-Some-tick_once-clause-ticks : goal.returns-in-Some-tick_once-clause-ticks
returns-in-Some-tick_once-clause-ticks g c = ticks-on c.args.shared.now.setup c.args.seat.now
    c.loop.seat c.loop.invariant.0 c.tick_once.new.seat.front _ _ _ _ c.loop.invariant.1
    c.in-Some-tick_once.ensures.ticks

pub loop-preserved : goal.loop-preserved
loop-preserved g c = (
  c.tick_once.ensures.same
      ∙ ap (λ (s : NodeSeat). at s c.tick_once.new.seat.front) c.loop.invariant.0,
  ticks-on c.args.shared.now.setup c.args.seat.now c.loop.seat c.loop.invariant.0
      c.tick_once.new.seat.front _ _ _ _ c.loop.invariant.1 c.in_default.ensures.ticks,
)
