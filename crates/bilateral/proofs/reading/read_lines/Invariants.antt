use Rattle.std.proofs.Common.{◌≡◌, length}
use Rattle.std.specs.Str.Lines.{lines}
use Rattle.bilateral.specs.Reading.{after_lines, centre_in}
use Rattle.bilateral.specs.Store.{so_far, IsStore}
use Rattle.bilateral.proofs.reading.read_lines.Given as goal

abbrev pub invariant-loop-first : goal.invariant-loop-first
invariant-loop-first l = record {
  store : IsStore l.store;
  read : centre_in l.text ≡ after_lines (so_far l.store) l.line (lines l.rest);
}

abbrev pub decreases-loop-first : goal.decreases-loop-first
decreases-loop-first l = length l.rest
