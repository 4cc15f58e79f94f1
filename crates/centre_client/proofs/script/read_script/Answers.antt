use Rattle.centre_client.proofs.Spelled.{found-in, only-in, fault-in}
use Rattle.centre_client.proofs.Playable.{lawful-in}
use Rattle.centre_client.proofs.LineFaultsMet.{script_good}
use Rattle.centre_client.proofs.script.read_script.Goals as goal

pub returns-clause-found : goal.returns-clause-found
returns-clause-found c =
    found-in c.args.centre.now c.args.text.now c.read_lines.result c.read_lines.ensures.read

pub returns-clause-only : goal.returns-clause-only
returns-clause-only c = λ script spells.
    only-in c.args.centre.now c.args.text.now c.read_lines.result script spells
    c.read_lines.ensures.read

pub returns-clause-fault : goal.returns-clause-fault
returns-clause-fault c = λ fault bad.
    fault-in c.args.centre.now c.args.text.now c.read_lines.result fault bad
    c.read_lines.ensures.read

pub returns-clause-lawful : goal.returns-clause-lawful
returns-clause-lawful c =
    lawful-in c.args.centre.now c.args.text.now c.read_lines.result
    (found-in c.args.centre.now c.args.text.now c.read_lines.result c.read_lines.ensures.read)

pub returns-clause-memory : goal.returns-clause-memory
returns-clause-memory c = λ lack.
    script_good c.args.centre.now c.args.text.now (c.read_lines.ensures.memory lack)
