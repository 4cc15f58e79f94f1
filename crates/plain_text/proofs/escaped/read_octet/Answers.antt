-- A text that is too short for an escape stands for nothing.
use Rattle.std.proofs.Common.{arith, sym}
use Rattle.plain_text.proofs.Unescape.{unescaped-short}
use Rattle.plain_text.proofs.escaped.read_octet.Goals as goal

pub returns-in_default-2 : goal.returns-in_default-2
returns-in_default-2 c =
    unescaped-short c.args.text.now _ (omega arith) (omega arith) (sym c.if-is_plain.ensures)
