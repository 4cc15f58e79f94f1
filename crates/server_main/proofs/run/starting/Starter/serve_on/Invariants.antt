use Rattle.std.specs.Arc.{arc_value}
use Rattle.server_main.specs.declared.run.serving.ServingEnd.{ServingEnd}
use Rattle.server_main.specs.Run.Accepting.{accepting}
use Rattle.server_main.specs.Run.Serving.{KeepsServing}
use Rattle.server_main.specs.Run.Rounds.{ServingState, serving_state, ServesOn}
use Rattle.server_main.proofs.run.starting.Starter.serve_on.Given as goal

abbrev pub invariant-loop : goal.invariant-loop
invariant-loop g l = record {
  keeps : KeepsServing g.N.Link.Link.told (arc_value l.fn.self.shared.now)
      (accepting l.initial.seat (g.N.Listener.told l.initial.listener)
      l.initial.spawner.told l.initial.links)
      (accepting l.seat (g.N.Listener.told l.listener) l.spawner.told l.links);
  goes : (after : ServingState g.row.N-Link.Denot g.row.S.Denot g.row.C.Denot) (end : ServingEnd)
      → ServesOn g.N.Link.Link.told (arc_value l.fn.self.shared.now)
      (serving_state (accepting l.seat (g.N.Listener.told l.listener)
      l.spawner.told l.links) (g.K.Sink.told l.plant)) after end
      → ServesOn g.N.Link.Link.told (arc_value l.fn.self.shared.now)
      (serving_state (accepting l.initial.seat (g.N.Listener.told l.initial.listener)
      l.initial.spawner.told l.initial.links) (g.K.Sink.told l.initial.plant))
      after end;
}
