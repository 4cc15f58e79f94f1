use Rattle.std.proofs.Common.{length, ap, arith}
use Rattle.std.proofs.lemmas.List.{length-append}
use Rattle.ber_values.specs.Writing.{written}
use Rattle.stack_assoc.proofs.OfWire.Sizes.{written-most}
use Rattle.stack_assoc.proofs.wire.layers.wrapped.Goals as goal

pub returns-clause-short : goal.returns-clause-short
returns-clause-short c = omega (
  arith,
  ap length c.in_ok-write_octets.ensures.ok,
  length-append c.new-octets.result.items (written c.args.tag c.args.contents.now),
  ap length c.new-octets.ensures.items,
  written-most c.args.tag c.args.contents.now,
  c.requires.short,
)
