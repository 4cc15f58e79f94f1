use Rattle.std.proofs.Common.{◌≡◌, ◌∙◌, [], true, length, sym, subst, ap, arith}
use Rattle.std.proofs.lemmas.Bool.{eqb-false}
use Rattle.node_server.specs.FeedReading.{FeedPlace, yet_fed, line_says, says_then}
use Rattle.node_server.specs.declared.feed_end.FeedEnd.TheVariants.{Ended}
use Rattle.node_server.specs.declared.feed_reader.FeedSays.{FeedSays}
use Rattle.node_server.proofs.FeedRead.{last-taken, if_ok-map}
use Rattle.node_server.proofs.feed_reader.FeedReader.finish.Goals as goal

pub returns-clause-says : goal.returns-clause-says
returns-clause-says c = if_ok-map
    (λ (says : FeedSays). says
    ≡ line_says c.args.centre.now c.self.inside.number c.deref.result.now)
    (λ (says : FeedSays). yet_fed c.args.centre.now true c.args.self.now []
    ≡ says_then says (record { events = []; end = Ended })) c.read_line.result
    (λ says said. subst (λ (place : FeedPlace). yet_fed c.args.centre.now true place []
    ≡ says_then says (record { events = []; end = Ended })) c.self.view_is
    (last-taken c.args.centre.now
    (record { held = c.self.inside.held.items; number = c.self.inside.number })
    c.self.invariant.0 says
    (let some = eqb-false _ _ (sym c.if-is_empty.ensures) in omega (
      arith,
      c.deref.ensures.len,
      ap length c.deref.ensures.value,
    ))
    (said ∙ ap (line_says c.args.centre.now c.self.inside.number) c.deref.ensures.value)))
    c.read_line.ensures.says
