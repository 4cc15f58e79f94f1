use Rattle.std.specs.Str.Lines.{lines}
use Rattle.bilateral.proofs.LawfulRows.{centre_lawful}
use Rattle.bilateral.proofs.Spelled.{spelled-found}
use Rattle.bilateral.proofs.laws.read_tables_are_lawful.Goals as goal

pub returns-clause-read : goal.returns-clause-read
returns-clause-read c = centre_lawful

pub returns-clause-spelled : goal.returns-clause-spelled
returns-clause-spelled c = λ text rows spells.
    centre_lawful text rows (spelled-found (lines text) rows spells)
