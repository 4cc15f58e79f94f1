-- What an `MmsData` is seen as.
use Rattle.mms_data.specs.declared.data.DataKind.{DataKind}
use Rattle.mms_data.specs.declared.data.DataKind.TheVariants.{Boolean, Integer, Unsigned, Bits}
use Rattle.mms_data.specs.declared.data.DataKind.TheVariants.{Real, Octets, Text, Structure, Array}
use Rattle.mms_data.specs.Datum.{Datum, boolean, integer, unsigned, bits, real, octets, text}
use Rattle.mms_data.specs.Datum.{structure, array, data_of}

-- the datum of a value
abbrev pub datum_of : DataKind → Datum
datum_of (Boolean b) = boolean b
datum_of (Integer z) = integer z
datum_of (Unsigned n) = unsigned n
datum_of (Bits b) = bits b
datum_of (Real o) = real o
datum_of (Octets o) = octets o
datum_of (Text o) = text o
datum_of (Structure ds) = structure (data_of ds)
datum_of (Array ds) = array (data_of ds)
