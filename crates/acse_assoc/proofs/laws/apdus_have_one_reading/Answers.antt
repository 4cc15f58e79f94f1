use Rattle.ber_values.specs.Reading.{Taken}
use Rattle.ber_values.proofs.Reading.{HasOneReading-from}
use Rattle.acse_assoc.specs.declared.apdu.Apdu.{Apdu}
use Rattle.acse_assoc.specs.Apdus.{apdu}
use Rattle.acse_assoc.proofs.ApdusRead.{apdu_reads}
use Rattle.acse_assoc.proofs.laws.apdus_have_one_reading.Goals as goal

pub returns : goal.returns
returns c e at octets = HasOneReading-from (Taken Apdu) ((apdu e).begins at octets)
    ((apdu e).fault at octets) ((apdu e).reading at octets) (apdu_reads e at octets)
