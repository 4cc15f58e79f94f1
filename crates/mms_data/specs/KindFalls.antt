-- A list of members is smaller than the value that holds it.
use Rattle.std.specs.Prelude.{◌*◌, ◌≤◌, max}
use Rattle.std.proofs.Common.{arith}
use Rattle.mms_data.specs.declared.data.DataKind.{DataKind}
use Rattle.mms_data.specs.declared.data.DataKind.TheVariants.{Boolean, Integer, Unsigned, Bits}
use Rattle.mms_data.specs.declared.data.DataKind.TheVariants.{Real, Octets, Text, Structure, Array}
use Rattle.mms_data.specs.declared.data.DataList.TheDeep.{deep-DataKind}
use Rattle.mms_data.specs.Datum.{depth}
use Rattle.mms_data.specs.DatumOf.{datum_of}

pub deep_le-depth : (k : DataKind) → max (deep-DataKind k) 0 ≤ 2 * depth (datum_of k)
deep_le-depth (Boolean b) = omega arith
deep_le-depth (Integer z) = omega arith
deep_le-depth (Unsigned n) = omega arith
deep_le-depth (Bits b) = omega arith
deep_le-depth (Real o) = omega arith
deep_le-depth (Octets o) = omega arith
deep_le-depth (Text o) = omega arith
deep_le-depth (Structure ds) = omega arith
deep_le-depth (Array ds) = omega arith
