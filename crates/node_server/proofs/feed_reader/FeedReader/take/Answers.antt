use Rattle.std.proofs.Common.{subst, ap}
use Rattle.node_server.specs.HeldLines.{HasNoEnd}
use Rattle.node_server.specs.FeedReading.{FeedPlace}
use Rattle.node_server.proofs.FeedRead.{line-came}
use Rattle.node_server.proofs.feed_reader.FeedReader.take.Goals as goal

pub returns-clause-says : goal.returns-clause-says
returns-clause-says c = line-came c.args.centre.now c.args.self.now c.begin.new.self c.args.octet
    c.self.inside.number c.line.result.now c.in_ok-says.says
    (subst (λ (place : FeedPlace). HasNoEnd place.held) c.self.view_is c.self.invariant.0)
    c.if-octet-ne10.false (ap (λ (place : FeedPlace). place.number) c.self.view_is) c.line.ensures
    c.begin.ensures c.in_ok-says.ensures.says
