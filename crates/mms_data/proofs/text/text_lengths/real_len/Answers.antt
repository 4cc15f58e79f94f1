use Rattle.std.proofs.Common.{arith}
use Rattle.plain_text.proofs.TextLengths.{length-hex_text}
use Rattle.mms_data.proofs.text.text_lengths.real_len.Goals as goal

pub returns : goal.returns
returns c =
    omega (arith, c.add_len.ensures, c.hex_len.ensures, length-hex_text c.args.real.now)
