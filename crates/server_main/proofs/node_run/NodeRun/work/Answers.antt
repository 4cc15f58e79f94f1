use Rattle.std.specs.Arc.{arc_value}
use Rattle.server_main.specs.Run.Accepting.{accepting}
use Rattle.server_main.specs.Run.Rounds.{serving_state}
use Rattle.server_main.specs.Working.{telling, inputs_told}
use Rattle.server_main.proofs.Pending.{serves-none}
use Rattle.server_main.proofs.AtWork.{works-to-end}
use Rattle.server_main.proofs.node_run.NodeRun.work.Goals as goal

pub work_behind-worked-requires-clause-serving : goal.work_behind-worked-requires-clause-serving
work_behind-worked-requires-clause-serving g c κs within = (
  c.begin_jobs-begun.new.spawner.told.pending,
  serves-none g.N.Link.Link.told (arc_value c.args.self.now.shared.now)
      c.begin_jobs-begun.new.seat (g.N.Listener.told c.args.listener.now)
      c.begin_jobs-begun.new.spawner.told c.begin_jobs-begun.ensures.back.of
      c.requires.within,
)

pub stop_behind-requires : goal.stop_behind-requires
stop_behind-requires g c =
    (c.work_behind-worked.ensures.keeps c.begin_jobs-begun.new.spawner.told.pending
    (serves-none g.N.Link.Link.told (arc_value c.args.self.now.shared.now)
    c.begin_jobs-begun.new.seat (g.N.Listener.told c.args.listener.now)
    c.begin_jobs-begun.new.spawner.told c.begin_jobs-begun.ensures.back.of
    c.requires.within)).of

pub returns : goal.returns
returns g c =
    works-to-end (telling g.N.Link.Link.told g.S.Source.told g.C.Clock.told)
    (arc_value c.args.self.now.shared.now)
    (c.rounds_are_done.ensures (arc_value c.args.self.now.shared.now))
    (inputs_told (g.S.Source.told c.args.inputs.feed) (g.C.Clock.told c.args.inputs.clock))
    c.args.seat.now c.begin_jobs-begun.new.seat c.stop_behind.new.seat
    (g.N.Listener.told c.args.listener.now) c.args.spawner.now.told
    c.begin_jobs-begun.new.spawner.told (g.K.Sink.told c.args.plant.now)
    (serving_state (accepting c.work_behind-worked.new.seat
    (g.N.Listener.told c.work_behind-worked.new.listener)
    c.work_behind-worked.new.spawner.told c.work_behind-worked.result.links)
    (g.K.Sink.told c.work_behind-worked.new.plant))
    c.begin_jobs-begun.result c.work_behind-worked.result.feed
    c.work_behind-worked.result.clock c.work_behind-worked.result.work c.requires.first
    c.requires.within c.begin_jobs-begun.ensures c.work_behind-worked.ensures.keeps
    c.work_behind-worked.ensures.works c.work_behind-worked.ensures.feed
    c.work_behind-worked.ensures.clock c.stop_behind.ensures.same c.stop_behind.ensures.stops
