-- The text up to the place is read.
use Rattle.std.proofs.Common.{◌≡◌, ◌-◌, ◌≤◌, length, drop}
use Rattle.plain_text.specs.Escaped.{unescaped}
use Rattle.plain_text.proofs.Unescape.{after_octets}
use Rattle.plain_text.proofs.escaped.read_escaped.Given as goal

abbrev pub invariant-loop-place : goal.invariant-loop-place
invariant-loop-place l = record {
  within : l.place ≤ length l.text;
  read : unescaped l.text ≡ after_octets l.octets.items (unescaped (drop l.place l.text));
}

abbrev pub decreases-loop-place : goal.decreases-loop-place
decreases-loop-place l = length l.text - l.place
