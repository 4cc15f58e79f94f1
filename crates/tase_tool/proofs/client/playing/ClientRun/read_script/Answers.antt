use Rattle.tase_tool.proofs.client.playing.ClientRun.read_script.Goals as goal

pub returns : goal.returns
returns g c = record {
  read = c.read_input-read.result;
  mid = g.O.Outside.told c.read_input-read.new.outside;
  reads = c.read_input-read.ensures;
  goes = c.play_script.ensures;
}
