use Rattle.std.proofs.Common.{◌+◌, length, ◌∷◌, arith}
use Rattle.mms_data.proofs.DataLengths.{element-written}
use Rattle.mms_data.proofs.data.octets.real_element_len.Goals as goal

pub returns : goal.returns
returns c = element-written 135 (1 + length c.args.real.now) c.element_len.result (8 ∷ c.args.real.now) (omega arith) c.element_len.ensures
