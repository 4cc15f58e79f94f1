use Rattle.std.proofs.Common.{arith}
use Rattle.mms_data.proofs.OfText.WordText.{bits_sound}
use Rattle.mms_data.proofs.text.word_value.is_bits.Goals as goal

pub returns-clause-bits : goal.returns-clause-bits
returns-clause-bits c =
    bits_sound c.args.count c.args.octets.now c.fills.result c.fills.ensures
    (λ i. omega (arith, c.type_inv.octets i))
