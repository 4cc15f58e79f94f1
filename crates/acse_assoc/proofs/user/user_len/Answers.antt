use Rattle.std.proofs.Common.{arith}
use Rattle.ber_values.specs.Writing.{written}
use Rattle.ber_values.specs.Externals.{external_octets}
use Rattle.ber_values.proofs.Capped.{element-sized, element-few}
use Rattle.acse_assoc.proofs.user.user_len.Goals as goal

pub returns-clause-value : goal.returns-clause-value
returns-clause-value c octets len =
    element-sized 190 c.external_part_len.result c.part_len.result
    (written 40 (external_octets c.args.id octets)) (c.external_part_len.ensures.value octets len) c.part_len.ensures
    (omega (arith, c.external_part_len.ensures.few, c.requires))

pub returns-clause-few : goal.returns-clause-few
returns-clause-few c = omega (
  arith,
  c.external_part_len.ensures.few,
  c.requires,
  element-few c.external_part_len.result c.part_len.result c.part_len.ensures,
)
