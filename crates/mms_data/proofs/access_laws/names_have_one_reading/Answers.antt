use Rattle.ber_values.specs.Reading.{Taken}
use Rattle.ber_values.proofs.Reading.{HasOneReading-from}
use Rattle.mms_data.specs.ObjectName.{ObjectName}
use Rattle.mms_data.specs.NameOctets.{one_name}
use Rattle.mms_data.proofs.NameRead.{one_name_reads}
use Rattle.mms_data.proofs.access_laws.names_have_one_reading.Goals as goal

pub returns : goal.returns
returns c at octets = HasOneReading-from (Taken ObjectName) (one_name.begins at octets)
    (one_name.fault at octets) (one_name.reading at octets) (one_name_reads at octets)
