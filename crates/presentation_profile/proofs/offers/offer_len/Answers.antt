use Rattle.std.proofs.Common.{arith}
use Rattle.ber_values.proofs.Capped.{short-sized}
use Rattle.presentation_profile.specs.Written.{offered_octets, offer_octets}
use Rattle.presentation_profile.proofs.offers.offer_len.Goals as goal

pub returns-clause-value : goal.returns-clause-value
unfolding offer_octets
returns-clause-value c =
    let few = c.offered_len.ensures.few in
    omega (
      arith,
      short-sized 48 (offered_octets c.args.offer.now)
          (omega (arith, few, c.offered_len.ensures.value)),
      c.offered_len.ensures.value,
    )
