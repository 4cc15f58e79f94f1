use Rattle.std.proofs.Common.{◌≡◌, ◌++◌, take, length}
use Rattle.plain_text.specs.Octets.{hex_text}
use Rattle.plain_text.proofs.hexadecimal.push_hex.Given as goal

abbrev pub invariant-loop-octet : goal.invariant-loop-octet
invariant-loop-octet l = record {
  start : l.start ≡ length l.initial.out.items;
  written : l.out.items ≡ l.initial.out.items ++ hex_text (take l.octet-index l.octets);
}
