use Rattle.std.proofs.Common.{length, ap, arith}
use Rattle.stack_assoc.proofs.OfWire.Sizes.{data-most}
use Rattle.stack_assoc.proofs.wire.layers.carried.Goals as goal

pub returns-clause-short : goal.returns-clause-short
returns-clause-short c = omega (
  arith,
  ap length c.in_ok-carried.ensures,
  data-most c.args.acse c.as_slice.result.now,
  ap length c.as_slice.ensures.value,
  ap length c.in_ok-octets.ensures,
  c.requires.short,
)
