use Rattle.acse_assoc.proofs.WrittenApdus.{apdu_begins}
use Rattle.acse_assoc.proofs.laws.written_apdus_are_read.Goals as goal

pub returns : goal.returns
returns c = apdu_begins
