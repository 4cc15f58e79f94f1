use Rattle.std.proofs.Common.{◌≡◌, [], false, subst}
use Rattle.node_server.specs.FeedReading.{FeedPlace, yet_fed}
use Rattle.node_server.specs.declared.feed_end.FeedEnd.TheVariants.{Ended}
use Rattle.node_server.proofs.FeedRead.{none-yet}
use Rattle.node_server.proofs.feed_reader.FeedReader.break_off.Goals as goal

pub returns : goal.returns
returns c = λ rows. subst (λ (place : FeedPlace). yet_fed rows false place []
    ≡ record { events = []; end = Ended }) c.self.view_is
    (none-yet rows (record { held = c.self.inside.held.items; number = c.self.inside.number })
    c.self.invariant.0)
