use Rattle.ber_values.specs.Reading.{Taken}
use Rattle.ber_values.proofs.Reading.{HasOneReading-from}
use Rattle.presentation_profile.specs.declared.ppdu.Ppdu.{Ppdu}
use Rattle.presentation_profile.specs.Ppdus.{ppdu}
use Rattle.presentation_profile.proofs.PpdusRead.{ppdu_reads}
use Rattle.presentation_profile.proofs.laws.ppdus_have_one_reading.Goals as goal

pub returns : goal.returns
returns c e at octets = HasOneReading-from (Taken Ppdu) ((ppdu e).begins at octets)
    ((ppdu e).fault at octets) ((ppdu e).reading at octets) (ppdu_reads e at octets)
