use Rattle.std.proofs.Common.{Some, None}
use Rattle.std.specs.Arc.{arc_value}
use Rattle.server_main.specs.Run.Accepting.{accepting}
use Rattle.server_main.specs.Run.Rounds.{serving_state}
use Rattle.server_main.proofs.OfRun.RoundsOn.{round-keeps, one-round, last-round}
use Rattle.server_main.proofs.run.starting.Starter.serve_on.Goals as goal

pub loop-preserved : goal.loop-preserved
loop-preserved g c =
    let told = g.N.Link.Link.told in
    let node = arc_value c.args.self.now.shared.now in
    let now = serving_state (accepting c.loop.seat (g.N.Listener.told c.loop.listener)
    c.loop.spawner.told c.loop.links) (g.K.Sink.told c.loop.plant) in
    let mid = serving_state (accepting c.serve_round.new.seat
    (g.N.Listener.told c.serve_round.new.listener) c.serve_round.new.spawner.told
    c.serve_round.new.links) (g.K.Sink.told c.serve_round.new.plant) in
    record {
      keeps = λ first serving. round-keeps told node first now mid None
          c.in-None-serve_round.ensures (c.loop.invariant.keeps first serving);
      goes = λ after end rest. c.loop.invariant.goes after end
          (one-round told node now mid after end c.in-None-serve_round.ensures rest);
    }

pub returns-in-Some-serve_round-clause-keeps : goal.returns-in-Some-serve_round-clause-keeps
returns-in-Some-serve_round-clause-keeps g c =
    let told = g.N.Link.Link.told in
    let node = arc_value c.args.self.now.shared.now in
    let now = serving_state (accepting c.loop.seat (g.N.Listener.told c.loop.listener)
    c.loop.spawner.told c.loop.links) (g.K.Sink.told c.loop.plant) in
    let after = serving_state (accepting c.serve_round.new.seat
    (g.N.Listener.told c.serve_round.new.listener) c.serve_round.new.spawner.told
    c.serve_round.new.links) (g.K.Sink.told c.serve_round.new.plant) in
    λ first serving. round-keeps told node first now after (Some c.in-Some-serve_round.end)
    c.in-Some-serve_round.ensures (c.loop.invariant.keeps first serving)

pub returns-in-Some-serve_round-clause-serves : goal.returns-in-Some-serve_round-clause-serves
returns-in-Some-serve_round-clause-serves g c =
    let told = g.N.Link.Link.told in
    let node = arc_value c.args.self.now.shared.now in
    let now = serving_state (accepting c.loop.seat (g.N.Listener.told c.loop.listener)
    c.loop.spawner.told c.loop.links) (g.K.Sink.told c.loop.plant) in
    let after = serving_state (accepting c.serve_round.new.seat
    (g.N.Listener.told c.serve_round.new.listener) c.serve_round.new.spawner.told
    c.serve_round.new.links) (g.K.Sink.told c.serve_round.new.plant) in
    c.loop.invariant.goes after c.in-Some-serve_round.end
    (last-round told node now after c.in-Some-serve_round.end c.in-Some-serve_round.ensures)
