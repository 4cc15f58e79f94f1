use Rattle.std.proofs.Common.{◌∙◌, ℕ, length, pos, ap, arith}
use Rattle.ber_values.specs.Writing.{integer_octets}
use Rattle.acse_assoc.proofs.Sizes.{written-short}
use Rattle.acse_assoc.proofs.response.code_len.Goals as goal

pub returns-clause-value : goal.returns-clause-value
returns-clause-value c = written-short 2 c.natural_len.result (integer_octets (pos c.args.code))
    (c.natural_len.ensures.value ∙ ap (λ (n : ℕ). length (integer_octets (pos n))) c.from.ensures)
    (omega (arith, c.natural_len.ensures.few))
