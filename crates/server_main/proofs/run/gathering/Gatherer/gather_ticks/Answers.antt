use Rattle.std.proofs.Common.{refl}
use Rattle.server_main.proofs.OfRun.Came.{ticks-started, ticks-unrun}
use Rattle.server_main.proofs.run.gathering.Gatherer.gather_ticks.Goals as goal

pub finish_ticks-clock-requires-clause-first : goal.finish_ticks-clock-requires-clause-first
finish_ticks-clock-requires-clause-first g c κs within = (
  c.requires.started.0,
  ticks-started g.L.Link.told g.S.Source.told g.C.Clock.told c.args.self.now.shared.now
      c.requires.started.0 c.args.unrun c.args.spawner.now.told.pending
      c.in-None.is c.requires.started.1,
)

pub returns-in-Some-clause-gathers : goal.returns-in-Some-clause-gathers
returns-in-Some-clause-gathers g c = λ given started. (
  ticks-unrun g.L.Link.told g.S.Source.told g.C.Clock.told c.args.self.now.shared.now
      given c.args.unrun c.args.spawner.now.told.pending c.in-Some.clock
      c.in-Some.is started,
  refl,
)

pub returns-in-None-clause-gathers : goal.returns-in-None-clause-gathers
returns-in-None-clause-gathers g c = λ given started. c.finish_ticks-clock.ensures.finishes given
    (ticks-started g.L.Link.told g.S.Source.told g.C.Clock.told c.args.self.now.shared.now
    given c.args.unrun c.args.spawner.now.told.pending c.in-None.is started)
