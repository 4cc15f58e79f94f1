use Rattle.std.proofs.Common.{◌≡◌, ◌*◌, ◌≤◌, length, take}
use Rattle.plain_text.specs.Escaped.{escaped_text}
use Rattle.plain_text.proofs.lengths.escaped_len.Given as goal

abbrev pub invariant-loop-octet : goal.invariant-loop-octet
invariant-loop-octet l =
    (l.len ≡ length (escaped_text (take l.octet-index l.octets))) × (l.len ≤ 3 * l.octet-index)
