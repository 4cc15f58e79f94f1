use Rattle.std.proofs.Common.{ℕ, ◌∙◌, length, pos, ap, arith}
use Rattle.ber_values.specs.Writing.{integer_octets}
use Rattle.ber_values.proofs.Externals.{external_len-value}
use Rattle.ber_values.proofs.Capped.{element-few}
use Rattle.ber_values.proofs.external.external_len.Goals as goal

pub returns-clause-value : goal.returns-clause-value
returns-clause-value c octets len =
    external_len-value c.args.id c.args.body c.natural_len.result octets c.part_len.result len
    c.requires (c.natural_len.ensures.value ∙ ap (λ (n : ℕ). length (integer_octets (pos n))) c.from.ensures)
    c.natural_len.ensures.few c.part_len.ensures

pub returns-clause-few : goal.returns-clause-few
returns-clause-few c = omega (
  arith,
  c.natural_len.ensures.few,
  element-few c.args.body c.part_len.result c.part_len.ensures,
)
