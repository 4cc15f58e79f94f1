use Rattle.tase_tool.proofs.discover.discovering.DiscoverRun.list_opened.Goals as goal

pub returns : goal.returns
returns g c = λ rows peer lister. record {
  gone = g.O.Link.Link.told c.run_discover-end.new.terminal.link;
  shown = g.O.Out.Sink.told c.run_discover-end.new.terminal.sink;
  end = c.run_discover-end.result;
  asking = c.run_discover-end.new.talk.asking;
  lists = λ first heard. c.run_discover-end.ensures _ _ first lister heard;
  mid = g.O.Outside.told c.close_link.new.outside;
  leaves = c.close_link.ensures;
  told = g.O.Out.Sink.told c.tell_listing-status.new.sink;
  tells = c.tell_listing-status.ensures;
  closes = c.close_out.ensures;
}
