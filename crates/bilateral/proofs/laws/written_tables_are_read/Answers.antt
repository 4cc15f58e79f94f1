use Rattle.std.proofs.Common.{refl, sym}
use Rattle.bilateral.specs.Writing.{centre_lines}
use Rattle.bilateral.proofs.Growing.{centre_told}
use Rattle.bilateral.proofs.LineTexts.{line_read, lines_read}
use Rattle.bilateral.proofs.WrittenCentres.{centre_writable}
use Rattle.bilateral.proofs.laws.written_tables_are_read.Goals as goal

pub returns-clause-line : goal.returns-clause-line
returns-clause-line c = line_read

pub returns-clause-text : goal.returns-clause-text
returns-clause-text c = λ said fits stand. record {
  said = said;
  spelled = record { forms = lines_read said fits; stand = stand };
  says = refl;
}

pub returns-clause-centre : goal.returns-clause-centre
returns-clause-centre c = λ rows lawful. record {
  said = centre_lines rows;
  spelled = record {
    forms = lines_read (centre_lines rows) (centre_writable rows lawful);
    stand = (centre_told rows lawful).0;
  };
  says = sym (centre_told rows lawful).1;
}
