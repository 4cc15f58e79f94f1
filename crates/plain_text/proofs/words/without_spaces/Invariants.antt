use Rattle.std.proofs.Common.{◌≡◌, ◌≤◌, length}
use Rattle.plain_text.specs.Words.{words}
use Rattle.plain_text.proofs.words.without_spaces.Given as goal

abbrev pub invariant-loop-rest : goal.invariant-loop-rest
invariant-loop-rest l = record {
  same : words l.rest ≡ words l.text;
  bound : length l.rest ≤ length l.text;
}

abbrev pub decreases-loop-rest : goal.decreases-loop-rest
decreases-loop-rest l = length l.rest
