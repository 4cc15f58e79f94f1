use Rattle.std.proofs.Common.{◌∙◌, ap, length}
use Rattle.std.specs.Int.{w64}
use Rattle.std.proofs.lemmas.Int.{to_z-of_z}
use Rattle.ber_values.specs.Writing.{integer_octets}
use Rattle.ber_values.proofs.Pieces.{integer-sized}
use Rattle.mms_services.proofs.initiate.integer_part_len.Goals as goal

pub returns-clause-value : goal.returns-clause-value
returns-clause-value c tag = integer-sized tag c.integer_len.result c.args.value
    (c.integer_len.ensures.value
    ∙ ap (λ z. length (integer_octets z)) (to_z-of_z w64 c.args.value c.ranges.value))
    c.integer_len.ensures.few
