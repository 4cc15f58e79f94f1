use Rattle.std.proofs.Common.{arith}
use Rattle.ber_values.proofs.BitsLemmas.{IsBits-bits_with}
use Rattle.ber_values.proofs.bit_string.bits_with_unused.Goals as goal

pub new-requires : goal.new-requires
new-requires c =
    rw (c.in_ok-held.ensures, c.from.ensures)
    (IsBits-bits_with c.args.unused c.args.octets.now (λ i. omega (arith, c.type_inv.octets i))
    c.requires.few c.requires.some)
