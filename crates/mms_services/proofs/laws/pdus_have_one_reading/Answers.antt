use Rattle.ber_values.specs.Reading.{Taken}
use Rattle.ber_values.proofs.Reading.{HasOneReading-from}
use Rattle.mms_services.specs.declared.pdu.MmsPdu.{MmsPdu}
use Rattle.mms_services.specs.Pdus.{pdu}
use Rattle.mms_services.proofs.PdusRead.{pdu_reads}
use Rattle.mms_services.proofs.laws.pdus_have_one_reading.Goals as goal

pub returns : goal.returns
returns c at octets = HasOneReading-from (Taken MmsPdu) (pdu.begins at octets)
    (pdu.fault at octets) (pdu.reading at octets) (pdu_reads at octets)
