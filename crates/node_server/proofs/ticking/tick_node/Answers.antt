use Rattle.std.proofs.Common.{◌≡◌, refl, sym, ◌∙◌, [], true, false}
use Rattle.node_server.proofs.TickRuns.{run-told, stop_asked, run_seen}
use Rattle.node_server.proofs.ticking.tick_node.Goals as goal

pub returns-then-not-is_stopped-clause-ticks : goal.returns-then-not-is_stopped-clause-ticks
returns-then-not-is_stopped-clause-ticks g c = stop_asked c.args.shared.now.setup c.args.seat.now
    c.tick_on-end.new.seat.front c.stop_node.new.seat.front _ _ c.tick_on-end.result
    c.tick_on-end.ensures.ticks
    (λ stopped. let both : false ≡ true = sym c.if-not-is_stopped.true
    ∙ c.is_stopped.ensures.1 stopped in absurd cc)
    c.tick_on-end.new.seat c.tick_on-end.ensures.same c.stop_node.ensures.stops

pub returns-then-not-is_stopped-clause-seen : goal.returns-then-not-is_stopped-clause-seen
returns-then-not-is_stopped-clause-seen g c =
    run_seen _ _ _ _ _ _ (returns-then-not-is_stopped-clause-ticks g c)

pub returns-else-not-is_stopped-clause-ticks : goal.returns-else-not-is_stopped-clause-ticks
returns-else-not-is_stopped-clause-ticks g c = run-told c.args.shared.now.setup c.args.seat.now
    c.tick_on-end.new.seat.front c.tick_on-end.new.seat.front _ _ c.tick_on-end.result
    c.tick_on-end.ensures.ticks []
    ((λ _. refl), λ other. absurd (other (c.is_stopped.ensures.0 c.if-not-is_stopped.false))) refl

pub returns-else-not-is_stopped-clause-seen : goal.returns-else-not-is_stopped-clause-seen
returns-else-not-is_stopped-clause-seen g c =
    run_seen _ _ _ _ _ _ (returns-else-not-is_stopped-clause-ticks g c)
