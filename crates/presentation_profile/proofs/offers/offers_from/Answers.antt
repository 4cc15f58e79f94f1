use Rattle.std.proofs.Common.{◌≤◌, ◌<◌, ◌+◌, length}
use Rattle.ber_values.specs.Readers.{taken_from}
use Rattle.ber_values.proofs.Settled.{settled_by, settled_holds}
use Rattle.presentation_profile.specs.Offers.{offers}
use Rattle.presentation_profile.proofs.OffersRead.{offers_read}
use Rattle.presentation_profile.proofs.offers.offers_from.Goals as goal

pub returns-clause-exact : goal.returns-clause-exact
returns-clause-exact c =
    rw c.settle.ensures (settled_by offers (taken_from c.args.at c.args.octets.now) c.args.at
    c.args.octets.now c.take_offers.result offers_read c.take_offers.ensures.exact)

pub returns-clause-within : goal.returns-clause-within
returns-clause-within c =
    rw c.settle.ensures (settled_holds
    (λ x. (c.args.at < x.1) × (x.1 ≤ c.args.at + length c.args.octets.now))
    c.take_offers.result c.take_offers.ensures.within)
