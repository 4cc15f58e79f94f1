use Rattle.std.proofs.Common.{refl, arith}
use Rattle.ber_values.specs.Externals.{external_octets}
use Rattle.ber_values.proofs.Capped.{element-sized, element-few}
use Rattle.presentation_profile.proofs.user_data.list_len.Goals as goal

pub returns-clause-value : goal.returns-clause-value
returns-clause-value c =
    element-sized 48 c.external_len.result c.part_len.result
    (external_octets c.args.id c.args.body.now)
    (c.external_len.ensures.value c.args.body.now refl) c.part_len.ensures
    (omega (arith, c.external_len.ensures.few, c.requires))

pub returns-clause-few : goal.returns-clause-few
returns-clause-few c = omega (
  arith,
  c.external_len.ensures.few,
  element-few c.external_len.result c.part_len.result c.part_len.ensures,
)
