use Rattle.server_main.proofs.OfRounds.Joined.{rounds-done}
use Rattle.server_main.proofs.rounds.laws.rounds_are_done.Goals as goal

pub returns : goal.returns
returns g c = λ node before after end of serves.
    rounds-done node g.L.Link.told before after end of serves
