use Rattle.std.proofs.Common.{pos}
use Rattle.ber_values.specs.Writing.{integer_octets}
use Rattle.mms_data.proofs.DataLengths.{element-written}
use Rattle.mms_data.proofs.data.octets.unsigned_element_len.Goals as goal

pub returns : goal.returns
returns c = element-written 134 c.natural_len.result c.element_len.result (integer_octets (pos c.args.unsigned)) c.natural_len.ensures.value c.element_len.ensures
