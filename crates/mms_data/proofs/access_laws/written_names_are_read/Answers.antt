use Rattle.mms_data.proofs.NameWritten.{one_name_begins}
use Rattle.mms_data.proofs.access_laws.written_names_are_read.Goals as goal

pub returns : goal.returns
returns c = one_name_begins
