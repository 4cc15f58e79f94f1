use Rattle.outside.proofs.buffered.BufferedSink.finish.Goals as goal

pub returns : goal.returns
returns g c = rw c.into_sink.ensures (c.hand_on-end.new.self.1, c.hand_on-end.ensures)
