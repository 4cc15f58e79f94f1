use Rattle.std.proofs.Common.{ℕ, length, pos, ap, ◌∙◌}
use Rattle.ber_values.specs.Writing.{integer_octets}
use Rattle.mms_data.proofs.DataLengths.{element-written}
use Rattle.mms_data.proofs.types.octets.uint_len.Goals as goal

pub returns : goal.returns
returns c =
    element-written 134 c.natural_len.result c.part_len.result (integer_octets (pos c.args.size))
    (c.natural_len.ensures.value
    ∙ ap (λ (n : ℕ). length (integer_octets (pos n))) c.from.ensures)
    c.part_len.ensures
