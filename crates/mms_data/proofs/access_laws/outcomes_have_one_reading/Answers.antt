use Rattle.ber_values.specs.Reading.{Taken}
use Rattle.ber_values.proofs.Reading.{HasOneReading-from}
use Rattle.mms_data.specs.declared.outcome.Outcome.{Outcome}
use Rattle.mms_data.specs.OutcomeOctets.{one_outcome}
use Rattle.mms_data.proofs.OutcomeRead.{one_outcome_reads}
use Rattle.mms_data.proofs.access_laws.outcomes_have_one_reading.Goals as goal

pub returns : goal.returns
returns c at octets = HasOneReading-from (Taken Outcome) (one_outcome.begins at octets)
    (one_outcome.fault at octets) (one_outcome.reading at octets) (one_outcome_reads at octets)
