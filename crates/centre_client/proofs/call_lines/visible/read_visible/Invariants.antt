-- The text up to the place is read.
use Rattle.std.proofs.Common.{◌≡◌, ◌-◌, ◌≤◌, length, drop}
use Rattle.plain_text.specs.Escaped.{unescaped}
use Rattle.plain_text.proofs.Unescape.{after_octets}
use Rattle.centre_client.proofs.call_lines.visible.read_visible.Given as goal

abbrev pub invariant-loop-place : goal.invariant-loop-place
invariant-loop-place l = record {
  within : l.place ≤ length l.word;
  read : unescaped l.word ≡ after_octets l.octets.items (unescaped (drop l.place l.word));
}

abbrev pub decreases-loop-place : goal.decreases-loop-place
decreases-loop-place l = length l.word - l.place
