use Rattle.mms_data.proofs.OutcomeRead.{one_outcome_begins}
use Rattle.mms_data.proofs.access_laws.written_outcomes_are_read.Goals as goal

pub returns : goal.returns
returns c = one_outcome_begins
