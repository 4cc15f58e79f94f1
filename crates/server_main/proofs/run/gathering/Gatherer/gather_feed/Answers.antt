use Rattle.std.proofs.Common.{refl}
use Rattle.server_main.proofs.OfRun.Came.{feed-started, feed-unrun}
use Rattle.server_main.proofs.run.gathering.Gatherer.gather_feed.Goals as goal

pub finish_feed-source-requires-clause-first : goal.finish_feed-source-requires-clause-first
finish_feed-source-requires-clause-first g c κs within = (
  c.requires.started.0,
  feed-started g.L.Link.told g.S.Source.told g.C.Clock.told c.args.self.now.shared.now
      c.requires.started.0 c.args.unrun c.args.spawner.now.told.pending
      c.in-None.is c.requires.started.1,
)

pub returns-in-Some-clause-gathers : goal.returns-in-Some-clause-gathers
returns-in-Some-clause-gathers g c = λ given started. (
  feed-unrun g.L.Link.told g.S.Source.told g.C.Clock.told c.args.self.now.shared.now
      given c.args.unrun c.args.spawner.now.told.pending c.in-Some.source
      c.in-Some.is started,
  refl,
)

pub returns-in-None-clause-gathers : goal.returns-in-None-clause-gathers
returns-in-None-clause-gathers g c = λ given started. c.finish_feed-source.ensures.finishes given
    (feed-started g.L.Link.told g.S.Source.told g.C.Clock.told c.args.self.now.shared.now
    given c.args.unrun c.args.spawner.now.told.pending c.in-None.is started)
