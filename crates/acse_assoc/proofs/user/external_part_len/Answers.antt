use Rattle.std.proofs.Common.{arith}
use Rattle.ber_values.specs.Externals.{external_octets}
use Rattle.ber_values.proofs.Capped.{element-sized, element-few}
use Rattle.acse_assoc.proofs.user.external_part_len.Goals as goal

pub returns-clause-value : goal.returns-clause-value
returns-clause-value c octets len =
    element-sized 40 c.external_len.result c.part_len.result
    (external_octets c.args.id octets) (c.external_len.ensures.value octets len) c.part_len.ensures
    (omega (arith, c.external_len.ensures.few, c.requires))

pub returns-clause-few : goal.returns-clause-few
returns-clause-few c = omega (
  arith,
  c.external_len.ensures.few,
  c.requires,
  element-few c.external_len.result c.part_len.result c.part_len.ensures,
)
