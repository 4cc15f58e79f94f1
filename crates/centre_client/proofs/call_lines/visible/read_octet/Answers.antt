use Rattle.std.proofs.Common.{arith, sym}
use Rattle.plain_text.proofs.Unescape.{unescaped-short}
use Rattle.centre_client.proofs.call_lines.visible.read_octet.Goals as goal

pub returns-in_default-2 : goal.returns-in_default-2
returns-in_default-2 c =
    unescaped-short c.args.text.now _ (omega arith) (omega arith) (sym c.if-is_plain.ensures)
