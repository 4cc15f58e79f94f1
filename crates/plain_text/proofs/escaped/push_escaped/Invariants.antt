use Rattle.std.proofs.Common.{◌≡◌, ◌++◌, take, length}
use Rattle.plain_text.specs.Escaped.{escaped_text}
use Rattle.plain_text.proofs.escaped.push_escaped.Given as goal

abbrev pub invariant-loop-octet : goal.invariant-loop-octet
invariant-loop-octet l = record {
  start : l.start ≡ length l.initial.out.items;
  written : l.out.items ≡ l.initial.out.items ++ escaped_text (take l.octet-index l.octets);
}
