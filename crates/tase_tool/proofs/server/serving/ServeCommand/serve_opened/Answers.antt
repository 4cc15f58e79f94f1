use Rattle.std.proofs.Common.{refl, subst}
use Rattle.std.specs.Arc.{arc_value}
use Rattle.server_main.specs.Serving.{server_told}
use Rattle.tase_tool.specs.Server.Serving.{KeepsNode}
use Rattle.tase_tool.proofs.server.serving.ServeCommand.serve_opened.Goals as goal

pub returns-clause-serves : goal.returns-clause-serves
returns-clause-serves g c =
    let opened = c.args.opened in
    let left = c.serve_on-left.result in record {
      run = record {
        centre = arc_value c.args.centre.now;
        before = server_told (g.O.Listener.Listener.told opened.listener)
            (g.O.Out.Sink.told opened.plant) (g.O.In.Source.told opened.feed)
            (g.O.Clock.Clock.told opened.clock) c.args.spawner.now.told.faults;
        after = server_told (g.O.Listener.Listener.told left.listener)
            (g.O.Out.Sink.told left.plant) (g.O.In.Source.told left.served.feed)
            (g.O.Clock.Clock.told left.served.clock)
            c.serve_on-left.new.spawner.told.faults;
        node = left.served.node;
        written = c.keep_node.ensures.0;
        seats = left.served.seats;
        end = left.served.end;
      };
      of = refl;
      work = refl;
      starts = (refl, refl);
      runs = record {
        serves = c.serve_on-left.ensures.serves;
        of = c.serve_on-left.ensures.of;
        closed = g.O.Outside.told c.close_server-node.new.outside;
        ended = c.close_server-node.result.1;
        closes = c.close_server-node.ensures.closes;
        keeps = subst (λ node. KeepsNode c.args.self.now.words.journal.now node
            c.keep_node.ensures.0 c.close_server-node.result.1
            (g.O.Outside.told c.close_server-node.new.outside)
            (g.O.Outside.told c.keep_node.new.outside) c.keep_node.result)
            c.close_server-node.ensures.node c.keep_node.ensures.1;
      };
    }
