use Rattle.ber_values.proofs.WrittenParts.{element-written}
use Rattle.presentation_profile.specs.Written.{offered_octets, offer_octets}
use Rattle.presentation_profile.proofs.offers.put_offer.Goals as goal

pub returns-clause-ok : goal.returns-clause-ok
unfolding offer_octets
returns-clause-ok c =
    element-written 48 c.offered_len.result c.args.out.now.items c.write_head.new.out.items
    c.put_offered.new.out.items (offered_octets c.args.offer.now) c.offered_len.ensures.value
    c.in_ok-write_head.ensures.ok c.in_ok-put_offered.ensures.ok
