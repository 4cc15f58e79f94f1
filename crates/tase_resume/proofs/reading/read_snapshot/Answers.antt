use Rattle.std.proofs.Common.{ap, sym, ◌∙◌, List, ℕ, Result, Ok}
use Rattle.std.specs.Arc.{arc_value}
use Rattle.tase_views.specs.declared.event.Entry.{Entry}
use Rattle.tase_resume.proofs.LinesTaken.{fresh, read_whole, read_sound}
use Rattle.tase_resume.proofs.reading.read_snapshot.Goals as goal

pub returns-in-Ok-clause-sound : goal.returns-in-Ok-clause-sound
returns-in-Ok-clause-sound c =
    let rows = arc_value c.args.centre.now in
    read_sound rows c.args.text.now c.in_ok-entries-in-Ok.entries
    (read_whole rows c.args.text.now c.in_ok-node.node c.take_lines.new.node c.in-Ok.field-0
    (c.in_ok-node.ensures ∙ ap fresh c.in_ok-clone.ensures.cases)
    (rw c.in-Ok.is at c.in_ok-take_lines.ensures)
    ∙ ap (λ (l : List Entry). let r : Result (List Entry) ℕ = Ok l in r)
    (sym c.in_ok-entries-in-Ok.ensures))
