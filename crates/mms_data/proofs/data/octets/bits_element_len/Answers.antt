use Rattle.std.proofs.Common.{◌≡◌, ◌+◌, ap, length, arith}
use Rattle.ber_values.specs.Writing.{bits_octets}
use Rattle.mms_data.proofs.DataLengths.{element-written}
use Rattle.mms_data.proofs.data.octets.bits_element_len.Goals as goal

pub returns : goal.returns
returns c =
    let same : length c.octets.result.now ≡ length c.args.bits.now.octets = ap length c.octets.ensures.value in
    element-written 132 (1 + length c.octets.result.now) c.element_len.result (bits_octets c.args.bits.now) (omega (arith, same)) c.element_len.ensures
