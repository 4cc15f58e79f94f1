use Rattle.std.proofs.Common.{◌∙◌, ap, length}
use Rattle.ber_values.specs.Writing.{integer_octets}
use Rattle.mms_data.proofs.DataLengths.{element-written}
use Rattle.std.proofs.lemmas.Int.{to_z-of_z}
use Rattle.std.specs.Int.{w64}
use Rattle.mms_data.proofs.data.octets.integer_element_len.Goals as goal

pub returns : goal.returns
returns c = element-written 133 c.integer_len.result c.element_len.result (integer_octets c.args.integer) (c.integer_len.ensures.value ∙ ap (λ z. length (integer_octets z)) (to_z-of_z w64 c.args.integer c.ranges.integer)) c.element_len.ensures
