use Rattle.std.proofs.Common.{List}
use Rattle.ber_values.specs.Reading.{Taken}
use Rattle.ber_values.proofs.Reading.{HasOneReading-from}
use Rattle.presentation_profile.specs.declared.offers.Offered.{Offered}
use Rattle.presentation_profile.specs.Offers.{offers}
use Rattle.presentation_profile.proofs.OffersRead.{offers_read}
use Rattle.presentation_profile.proofs.laws.offers_have_one_reading.Goals as goal

pub returns : goal.returns
returns c at octets = HasOneReading-from (Taken (List Offered)) (offers.begins at octets)
    (offers.fault at octets) (offers.reading at octets) (offers_read at octets)
