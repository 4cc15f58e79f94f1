use Rattle.bilateral.proofs.index.note_row.Goals as goal

pub returns : goal.returns
returns c = λ p v q. c.in_ok-insert.ensures.updates.0 (p, v, q)
