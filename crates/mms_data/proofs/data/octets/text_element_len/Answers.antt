use Rattle.std.proofs.Common.{length, refl}
use Rattle.mms_data.proofs.DataLengths.{element-written}
use Rattle.mms_data.proofs.data.octets.text_element_len.Goals as goal

pub returns : goal.returns
returns c = element-written 138 (length c.args.text.now) c.element_len.result c.args.text.now refl c.element_len.ensures
