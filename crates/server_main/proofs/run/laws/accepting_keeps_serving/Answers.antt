use Rattle.server_main.proofs.OfRun.KeptServing.{kept-serving}
use Rattle.server_main.proofs.run.laws.accepting_keeps_serving.Goals as goal

pub returns : goal.returns
returns g c = λ node first before after end serving accepts.
    kept-serving g.L.Link.told node first before after end serving accepts
