use Rattle.ber_values.specs.Reading.{Taken}
use Rattle.ber_values.proofs.Reading.{HasOneReading-from}
use Rattle.mms_data.specs.Datum.{Datum}
use Rattle.mms_data.specs.DataOctets.{one_datum}
use Rattle.mms_data.proofs.DataRead.{one_datum_reads}
use Rattle.mms_data.proofs.laws.data_have_one_reading.Goals as goal

pub returns : goal.returns
returns c at octets = HasOneReading-from (Taken Datum) (one_datum.begins at octets)
    (one_datum.fault at octets) (one_datum.reading at octets) (one_datum_reads at octets)
