use Rattle.std.proofs.Common.{◌∙◌, ap, length}
use Rattle.std.proofs.lemmas.Int.{to_z-of_z}
use Rattle.std.specs.Int.{w64}
use Rattle.ber_values.specs.Writing.{integer_octets}
use Rattle.mms_data.proofs.DataLengths.{element-written}
use Rattle.mms_data.proofs.types.octets.signed_len.Goals as goal

pub returns : goal.returns
returns c =
    element-written 138 c.integer_len.result c.part_len.result (integer_octets c.args.size)
    (c.integer_len.ensures.value
    ∙ ap (λ z. length (integer_octets z)) (to_z-of_z w64 c.args.size c.ranges.size))
    c.part_len.ensures
