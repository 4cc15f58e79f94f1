use Rattle.bilateral.proofs.Spelled.{found-in, only-in, fault-in}
use Rattle.bilateral.proofs.reading.read_centre.Goals as goal

pub returns-clause-found : goal.returns-clause-found
returns-clause-found c =
    found-in c.args.text.now c.read_lines.result c.read_lines.ensures.value

pub returns-clause-only : goal.returns-clause-only
returns-clause-only c = λ rows spells.
    only-in c.args.text.now c.read_lines.result rows spells c.read_lines.ensures.value

pub returns-clause-fault : goal.returns-clause-fault
returns-clause-fault c = λ fault bad.
    fault-in c.args.text.now c.read_lines.result fault bad c.read_lines.ensures.value
