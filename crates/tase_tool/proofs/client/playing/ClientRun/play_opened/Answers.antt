use Rattle.tase_tool.proofs.client.playing.ClientRun.play_opened.Goals as goal

pub returns : goal.returns
returns g c = λ rows text talk. record {
  gone = g.O.Link.Link.told c.run_client-end.new.terminal.link;
  shown = g.O.Out.Sink.told c.run_client-end.new.terminal.sink;
  end = c.run_client-end.result;
  client = c.run_client-end.new.talk.asking;
  plays = λ first heard. c.run_client-end.ensures rows text first talk heard;
  mid = g.O.Outside.told c.close_link.new.outside;
  leaves = c.close_link.ensures;
  told = g.O.Out.Sink.told c.tell_run_end-status.new.sink;
  tells = c.tell_run_end-status.ensures;
  closes = c.close_out.ensures;
}
