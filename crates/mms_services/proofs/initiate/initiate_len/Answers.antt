use Rattle.std.proofs.Common.{rules, ◌≡◌, ◌∙◌, ap, length}
use Rattle.std.specs.Int.{w64}
use mir.Val.{to_z, of_z}
use Rattle.ber_values.specs.Writing.{written, integer_octets}
use Rattle.mms_services.proofs.ShortWritten.{initiate-sized}
use Rattle.mms_services.proofs.initiate.initiate_len.Goals as goal

pub returns-clause-value : goal.returns-clause-value
returns-clause-value c =
    let offer = c.args.offer.now in
    let calling : to_z w64 (of_z w64 offer.calling) ≡ offer.calling = search rules in
    let called : to_z w64 (of_z w64 offer.called) ≡ offer.called = search rules in
    initiate-sized offer c.some_integer_len.result c.integer_part_len.result
    c.integer_part_len-2.result c.some_integer_len-2.result (c.some_integer_len.ensures.value 128)
    (c.integer_part_len.ensures.value 129
    ∙ ap (λ z. length (written 129 (integer_octets z))) calling)
    (c.integer_part_len-2.ensures.value 130
    ∙ ap (λ z. length (written 130 (integer_octets z))) called)
    (c.some_integer_len-2.ensures.value 131)
