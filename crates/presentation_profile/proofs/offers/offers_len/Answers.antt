use Rattle.std.proofs.Common.{flat_map, length, ap, ◌∙◌, arith}
use Rattle.ber_values.proofs.Capped.{element-sized, element-few}
use Rattle.presentation_profile.specs.Written.{offer_octets, offers_octets}
use Rattle.presentation_profile.proofs.offers.offers_len.Goals as goal

pub returns-clause-value : goal.returns-clause-value
unfolding offers_octets
returns-clause-value c =
    element-sized 164 c.each_len.result c.part_len.result (flat_map offer_octets c.args.offers.now)
    (c.each_len.ensures.value ∙ ap (λ xs. length (flat_map offer_octets xs)) c.as_slice.ensures)
    c.part_len.ensures (omega (arith, c.each_len.ensures.few))

pub returns-clause-few : goal.returns-clause-few
returns-clause-few c =
    omega (
      arith,
      element-few c.each_len.result c.part_len.result c.part_len.ensures,
      c.each_len.ensures.few,
    )
