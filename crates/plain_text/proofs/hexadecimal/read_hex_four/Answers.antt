use Rattle.std.proofs.Common.{arith, sym}
use Rattle.plain_text.proofs.Hex.{hex_octets-other}
use Rattle.plain_text.proofs.hexadecimal.read_hex_four.Goals as goal

pub returns-in_default : goal.returns-in_default
returns-in_default c = sym (hex_octets-other 4 c.args.word.now (omega arith))

pub returns-in_default-2 : goal.returns-in_default-2
returns-in_default-2 c = sym (hex_octets-other 4 c.args.word.now (omega arith))
