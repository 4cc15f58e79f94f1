use Rattle.std.proofs.Common.{refl, [], None}
use Rattle.std.specs.Arc.{arc_value}
use Rattle.server_main.specs.Serving.{server_told}
use Rattle.server_main.specs.declared.serve_end.ServeEnd.TheVariants as ends
use Rattle.server_main.proofs.ServedAll.{none-served}
use Rattle.server_main.proofs.server.Server.serve.Goals as goal

pub returns-in-Ok-clause-serves : goal.returns-in-Ok-clause-serves
returns-in-Ok-clause-serves g c = rw c.in-Ok.ensures.setup at c.serve_node.ensures.serves

pub returns-in-Ok-clause-setup : goal.returns-in-Ok-clause-setup
returns-in-Ok-clause-setup g c = rw c.in-Ok.ensures.setup at c.serve_node.ensures.setup

pub returns-in-Err-clause-serves : goal.returns-in-Err-clause-serves
returns-in-Err-clause-serves g c = rw c.unserved.ensures
    (none-served (server_told (g.N.Listener.told c.args.listener.now)
    (g.K.Sink.told c.args.plant.now) (g.S.Source.told c.args.feed) (g.C.Clock.told c.args.clock)
    c.args.spawner.now.told.faults)
    (record { centre = arc_value c.args.self.now.centre.now; limit = c.args.self.now.limit })
    (record { own = 0; feed = None; ticks = None; links = record { seats = []; rooms = 0 } })
    ends.Memory (record {
      memory = refl;
      same = refl;
      own = refl;
      feed = refl;
      ticks = refl;
      links = refl;
    }))
