use Rattle.std.proofs.Common.{◌≡◌, None}
use Rattle.share_turn.specs.Public.{at}
use Rattle.node_server.specs.Ticking.{Ticks}
use Rattle.node_server.proofs.ticking.tick_on.Given as goal

abbrev pub invariant-loop : goal.invariant-loop
invariant-loop g l = (l.seat ≡ at l.initial.seat l.seat.front)
    × Ticks l.fn.shared.setup l.initial.seat l.seat.front (g.C.Clock.told l.initial.clock)
    (g.C.Clock.told l.clock) None
