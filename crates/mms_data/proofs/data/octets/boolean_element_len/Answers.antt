use Rattle.std.proofs.Common.{refl}
use Rattle.ber_values.specs.Writing.{boolean_octets}
use Rattle.mms_data.proofs.DataLengths.{element-written}
use Rattle.mms_data.proofs.data.octets.boolean_element_len.Goals as goal

pub returns : goal.returns
returns c = element-written 131 1 c.element_len.result (boolean_octets c.args.boolean) refl c.element_len.ensures
