use Rattle.std.proofs.Common.{arith}
use Rattle.ber_values.specs.Writing.{bits_octets}
use Rattle.mms_data.proofs.DataLengths.{few_contents}
use Rattle.mms_data.proofs.data.octets.put_bits.Goals as goal

pub write_bits-requires-clause-bounded : goal.write_bits-requires-clause-bounded
write_bits-requires-clause-bounded c =
    omega (arith, c.requires, few_contents 132 (bits_octets c.args.bits.now))
