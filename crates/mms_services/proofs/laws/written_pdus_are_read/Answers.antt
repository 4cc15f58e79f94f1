use Rattle.mms_services.proofs.PdusWritten.{pdu_begins}
use Rattle.mms_services.proofs.laws.written_pdus_are_read.Goals as goal

pub returns : goal.returns
returns c = pdu_begins
