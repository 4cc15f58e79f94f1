use Rattle.mms_data.proofs.DataWritten.{one_datum_begins}
use Rattle.mms_data.proofs.laws.written_data_are_read.Goals as goal

pub returns : goal.returns
returns c = one_datum_begins
