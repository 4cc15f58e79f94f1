use Rattle.std.proofs.Common.{◌≡◌, ◌*◌, ◌≤◌, length, flat_map, take}
use Rattle.presentation_profile.specs.Written.{offer_octets}
use Rattle.presentation_profile.proofs.offers.each_len.Given as goal

abbrev pub invariant-loop-offer : goal.invariant-loop-offer
invariant-loop-offer l =
    (l.len ≡ length (flat_map offer_octets (take l.offer-index l.offers)))
    × (l.len ≤ 52 * l.offer-index)
