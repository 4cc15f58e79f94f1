use Rattle.std.proofs.Common.{length, pos, ap, ◌∙◌}
use Rattle.ber_values.specs.Writing.{integer_octets}
use Rattle.presentation_profile.proofs.Sizes.{offered-sized}
use Rattle.presentation_profile.proofs.offers.offered_len.Goals as goal

pub returns-clause-value : goal.returns-clause-value
returns-clause-value c =
    rw c.octets-name.ensures.value (offered-sized c.args.offer.now c.natural_len-id.result
    (c.natural_len-id.ensures.value ∙ ap (λ k. length (integer_octets (pos k))) c.from.ensures)
    c.natural_len-id.ensures.few c.octets-name.ensures.sized.1)
