use Rattle.std.proofs.Common.{flat_map, length, ◌++◌, ap, ◌∙◌}
use Rattle.ber_values.proofs.WrittenParts.{element-written}
use Rattle.presentation_profile.specs.Written.{offer_octets, offers_octets}
use Rattle.presentation_profile.proofs.offers.put_offers.Goals as goal

pub returns-clause-ok : goal.returns-clause-ok
unfolding offers_octets
returns-clause-ok c =
    element-written 164 c.each_len.result c.args.out.now.items c.write_head.new.out.items
    c.put_each.new.out.items (flat_map offer_octets c.args.offers.now)
    (c.each_len.ensures.value ∙ ap (λ xs. length (flat_map offer_octets xs)) c.as_slice.ensures) c.in_ok-write_head.ensures.ok
    (c.in_ok-put_each.ensures.ok
    ∙ ap (λ xs. c.write_head.new.out.items ++ flat_map offer_octets xs) c.as_slice-2.ensures)
