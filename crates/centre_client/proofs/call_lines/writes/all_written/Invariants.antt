-- The names and values so far have so many octets.
use Rattle.std.proofs.Common.{◌≡◌, ◌≤◌, false, length}
use Rattle.plain_text.specs.Words.{words}
use Rattle.ber_values.specs.declared.lengths.TheConstants.{MOST_LENGTH}
use Rattle.centre_client.specs.CallSizes.{write_from}
use Rattle.centre_client.proofs.call_lines.writes.all_written.Given as goal

abbrev pub invariant-loop-word : goal.invariant-loop-word
invariant-loop-word l = record {
  names : l.names ≤ MOST_LENGTH;
  values : l.values ≤ MOST_LENGTH;
  read : write_from l.centre l.peer false 0 0 (words l.text)
      ≡ write_from l.centre l.peer l.guarded l.names l.values (words l.rest);
}

abbrev pub decreases-loop-word : goal.decreases-loop-word
decreases-loop-word l = length l.rest
