use Rattle.std.proofs.Common.{◌≡◌, refl, sym, ◌∙◌, [], true, false}
use Rattle.node_server.proofs.FeedRuns.{run-fed, stop-fed, feed_seen}
use Rattle.node_server.proofs.feeding.feed_node.Goals as goal

pub returns-then-not-is_stopped-clause-feeds : goal.returns-then-not-is_stopped-clause-feeds
returns-then-not-is_stopped-clause-feeds g c = stop-fed c.args.shared.now.setup c.args.seat.now
    c.feed_all-end.new.seat.front c.stop_node.new.seat.front _ _ c.feed_all-end.result
    c.feed_all-end.ensures.feeds
    (λ stopped. let both : false ≡ true = sym c.if-not-is_stopped.true
    ∙ c.is_stopped.ensures.1 stopped in absurd cc)
    c.feed_all-end.new.seat c.feed_all-end.ensures.same c.stop_node.ensures.stops

pub returns-then-not-is_stopped-clause-seen : goal.returns-then-not-is_stopped-clause-seen
returns-then-not-is_stopped-clause-seen g c =
    feed_seen _ _ _ _ _ _ (returns-then-not-is_stopped-clause-feeds g c)

pub returns-else-not-is_stopped-clause-feeds : goal.returns-else-not-is_stopped-clause-feeds
returns-else-not-is_stopped-clause-feeds g c = run-fed c.args.shared.now.setup c.args.seat.now
    c.feed_all-end.new.seat.front c.feed_all-end.new.seat.front _ _ c.feed_all-end.result
    c.feed_all-end.ensures.feeds []
    ((λ _. refl), λ other. absurd (other (c.is_stopped.ensures.0 c.if-not-is_stopped.false))) refl

pub returns-else-not-is_stopped-clause-seen : goal.returns-else-not-is_stopped-clause-seen
returns-else-not-is_stopped-clause-seen g c =
    feed_seen _ _ _ _ _ _ (returns-else-not-is_stopped-clause-feeds g c)
