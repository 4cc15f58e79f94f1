use Rattle.commands.proofs.OfLoad.LoadRows.{load_rows_lawful}
use Rattle.commands.proofs.OfLoad.WrittenRows.{load_tables-read}
use Rattle.commands.proofs.load.laws.load_tables_are_read.Goals as goal

pub returns-clause-read : goal.returns-clause-read
returns-clause-read c = load_tables-read

pub returns-clause-lawful : goal.returns-clause-lawful
returns-clause-lawful c = load_rows_lawful
