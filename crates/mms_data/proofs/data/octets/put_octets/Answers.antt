use Rattle.std.proofs.Common.{arith}
use Rattle.mms_data.proofs.DataLengths.{few_contents}
use Rattle.mms_data.proofs.data.octets.put_octets.Goals as goal

pub write_octets-requires-clause-bounded : goal.write_octets-requires-clause-bounded
write_octets-requires-clause-bounded c =
    omega (arith, c.requires, few_contents 137 c.args.octets.now)
