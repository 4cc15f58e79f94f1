use Rattle.std.proofs.Common.{length, refl}
use Rattle.mms_data.proofs.DataLengths.{element-written}
use Rattle.mms_data.proofs.data.octets.octets_element_len.Goals as goal

pub returns : goal.returns
returns c = element-written 137 (length c.args.octets.now) c.element_len.result c.args.octets.now refl c.element_len.ensures
