use Rattle.std.proofs.Common.{◌≡◌, ◌<◌, ◌+◌, ◌-◌, ◌^◌, min, length}
use Rattle.std.specs.Str.Lines.{lines}
use Rattle.centre_client.proofs.numbered.number_behind.Given as goal

abbrev pub invariant-loop-more : goal.invariant-loop-more
invariant-loop-more l = record {
  counted : l.number < 2 ^ 64;
  read : min (length (lines l.text) + 1) (2 ^ 64 - 1)
      ≡ min (length (lines l.rest) + l.number) (2 ^ 64 - 1);
}

abbrev pub decreases-loop-more : goal.decreases-loop-more
decreases-loop-more l = length l.rest
