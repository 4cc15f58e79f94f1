use Rattle.std.proofs.lemmas.Bool.{false≢true}
use Rattle.node_server.proofs.seats.attending.wanted_close.Goals as goal

pub returns-in-Err-clause-wants : goal.returns-in-Err-clause-wants
returns-in-Err-clause-wants c = λ rows items told turns s.
    absurd (false≢true (c.in-Err.ensures.over c.requires.over))
