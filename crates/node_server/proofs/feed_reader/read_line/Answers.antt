use Rattle.std.proofs.Common.{◌∙◌, sym}
use Rattle.node_server.proofs.FeedRead.{may-ask}
use Rattle.node_server.proofs.feed_reader.read_line.Goals as goal

pub returns-clause-may : goal.returns-clause-may
returns-clause-may c = may-ask c.args.centre.now c.args.line.now c.in-Some.event
    c.asks_or_stops.result (sym c.in_ok-event.ensures ∙ c.in-Some.is) c.asks_or_stops.ensures
