use Rattle.std.proofs.Common.{◌≡◌, ◌++◌, flat_map, take}
use Rattle.presentation_profile.specs.Written.{offer_octets}
use Rattle.presentation_profile.proofs.offers.put_each.Given as goal

abbrev pub invariant-loop-offer : goal.invariant-loop-offer
invariant-loop-offer l =
    l.out.items ≡ l.initial.out.items ++ flat_map offer_octets (take l.offer-index l.offers)
