-- The tables of a command: what they are read to.
use Rattle.std.specs.Prelude.{ℕ, List, Result, Ok, Err}
use Rattle.bilateral.specs.Rows.{CentreRows}
use Rattle.bilateral.specs.Reading.{centre_in}
use Rattle.bilateral.specs.declared.fault.TableFault.{TableFault}

-- tables that were read, or the number of their first bad line
abbrev pub centre_or_line : Result CentreRows TableFault → Result CentreRows ℕ
centre_or_line (Ok rows) = Ok rows
centre_or_line (Err fault) = Err fault.line

-- the centre that a text of tables spells, or the number of its first bad line
abbrev pub tables_in : List ℕ → Result CentreRows ℕ
tables_in text = centre_or_line (centre_in text)
