use Rattle.tase_tool.proofs.server.serving.close_server.Goals as goal

pub returns-clause-closes : goal.returns-clause-closes
returns-clause-closes g c = record {
  mid = g.O.Outside.told c.close_clock.new.self;
  inputs = record {
    unlistening = g.O.Outside.told c.close_listener.new.self;
    unfed = g.O.Outside.told c.close_in.new.self;
    listener = c.close_listener.ensures;
    feed = c.close_in.ensures;
    clock = c.close_clock.ensures;
  };
  plant = g.O.Out.Sink.told c.tell_end-status.new.plant;
  tells = c.tell_end-status.ensures;
  output = c.close_out.ensures;
}
