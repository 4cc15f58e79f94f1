use Rattle.std.proofs.Common.{arith}
use Rattle.ber_values.specs.Writing.{written}
use Rattle.ber_values.specs.Externals.{external_octets}
use Rattle.ber_values.proofs.Capped.{element-sized, element-few}
use Rattle.presentation_profile.specs.Written.{user_octets}
use Rattle.presentation_profile.proofs.user_data.user_len.Goals as goal

pub returns-clause-value : goal.returns-clause-value
unfolding user_octets
returns-clause-value c =
    element-sized 97 c.list_len.result c.part_len.result
    (written 48 (external_octets c.args.id c.args.body.now)) c.list_len.ensures.value
    c.part_len.ensures (omega (arith, c.list_len.ensures.few, c.requires))

pub returns-clause-few : goal.returns-clause-few
returns-clause-few c = omega (
  arith,
  c.list_len.ensures.few,
  element-few c.list_len.result c.part_len.result c.part_len.ensures,
)
