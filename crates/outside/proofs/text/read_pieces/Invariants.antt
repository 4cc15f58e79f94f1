use Rattle.std.proofs.Common.{◌≤◌, ◌-◌, length}
use Rattle.outside.proofs.Reading.{HasRead}
use Rattle.outside.proofs.text.read_pieces.Given as goal

abbrev pub invariant-loop-count : goal.invariant-loop-count
invariant-loop-count g l = record {
  within : length l.text.items ≤ l.limit;
  so_far : HasRead (g.S.Source.told l.initial.source) (g.S.Source.told l.source) l.text.items;
}

abbrev pub decreases-loop-count : goal.decreases-loop-count
decreases-loop-count g l = l.limit - length l.text.items
