-- The items so far have so many octets.
use Rattle.std.proofs.Common.{◌≡◌, ◌≤◌, length}
use Rattle.plain_text.specs.Words.{words}
use Rattle.ber_values.specs.declared.lengths.TheConstants.{MOST_LENGTH}
use Rattle.centre_client.specs.CallSizes.{items_from}
use Rattle.centre_client.proofs.call_lines.items.items_size.Given as goal

abbrev pub invariant-loop-word : goal.invariant-loop-word
invariant-loop-word l = record {
  few : l.len ≤ MOST_LENGTH;
  size : items_from l.kind 0 (words l.text) ≡ items_from l.kind l.len (words l.rest);
}

abbrev pub decreases-loop-word : goal.decreases-loop-word
decreases-loop-word l = length l.rest
