use Rattle.std.proofs.Common.{subst, sym, refl}
use Rattle.std.specs.Arc.{arc_value}
use Rattle.bilateral.specs.Rows.{CentreRows}
use Rattle.tase_replay.specs.Links.{given_seen}
use Rattle.tase_replay.specs.Standing.{AreSeatsUsed}
use Rattle.tase_replay.proofs.Own.{received_bad, found_so, none_so}
use Rattle.tase_replay.proofs.Players.{plays_bad, plays_none}
use Rattle.tase_replay.proofs.playing.Player.play_given.Goals as goal

pub serve-requires-clause-found : goal.serve-requires-clause-found
serve-requires-clause-found g c =
    let old = c.args.self.now in
    let a = c.requires.stands in
    let sits = subst (λ (rows : CentreRows). AreSeatsUsed rows a.0 old.seats.now)
    (sym c.shared_centre.ensures) a.1.sits in (
      a.0,
      (
        a.1.past_is,
        found_so old.node.now.setup.centre (arc_value c.shared_centre.result.now) a.0
            c.args.given.who c.place_of.new.self _ c.in-Ok-Some.place c.shared_centre.ensures
            c.in-Ok-Some.field-0-is (c.in-Ok-Some.ensures.found a.0 sits),
      ),
    )

pub returns-in-Ok-Some-clause-plays : goal.returns-in-Ok-Some-clause-plays
returns-in-Ok-Some-clause-plays g c = λ scene s.
    let old = c.args.self.now in
    let sits = subst (λ (rows : CentreRows). AreSeatsUsed rows scene old.seats.now)
    (sym c.shared_centre.ensures) s.sits in
    let plays = c.serve.ensures.plays c.args.number scene (
      s.past_is,
      found_so old.node.now.setup.centre (arc_value c.shared_centre.result.now) scene
          c.args.given.who c.place_of.new.self _ c.in-Ok-Some.place c.shared_centre.ensures
          c.in-Ok-Some.field-0-is (c.in-Ok-Some.ensures.found scene sits),
    ) in
    record { played = plays.played; stands = plays.stands; sent = plays.sent }

pub returns-in-Ok-None-clause-plays : goal.returns-in-Ok-None-clause-plays
returns-in-Ok-None-clause-plays g c = λ scene s.
    let old = c.args.self.now in
    let given = given_seen c.args.given in
    let sits = subst (λ (rows : CentreRows). AreSeatsUsed rows scene old.seats.now)
    (sym c.shared_centre.ensures) s.sits in
    plays_bad g.K.Sink.told c.args.number scene _ _ _ refl refl
    (received_bad old.node.now.setup scene given
    (none_so (arc_value c.shared_centre.result.now) scene given.who c.place_of.new.self _
    c.in-Ok-None.field-0-is (c.in-Ok-None.ensures.found scene sits)))

pub returns-clause-plays : goal.returns-clause-plays
returns-clause-plays g c = λ scene s.
    plays_none g.K.Sink.told c.args.number scene _ _ _ refl refl
