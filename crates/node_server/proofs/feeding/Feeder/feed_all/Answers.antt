use Rattle.node_server.specs.Feeding.{first_place}
use Rattle.node_server.proofs.FeedRuns.{nothing-read}
use Rattle.node_server.proofs.feeding.Feeder.feed_all.Goals as goal

pub returns-in_default-clause-feeds : goal.returns-in_default-clause-feeds
returns-in_default-clause-feeds g c = nothing-read c.args.self.now.shared.now.setup
    c.args.seat.now first_place (g.S.Source.told c.args.source.now)

pub returns-in_default-vec-clause-feeds : goal.returns-in_default-vec-clause-feeds
returns-in_default-vec-clause-feeds g c = nothing-read c.args.self.now.shared.now.setup
    c.args.seat.now first_place (g.S.Source.told c.args.source.now)
