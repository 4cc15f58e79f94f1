use Rattle.std.proofs.Common.{◌≡◌, take, true}
use Rattle.bilateral.specs.Words.Words.{is_distinct}
use Rattle.bilateral.proofs.words.layouts.is_distinct.Given as goal

abbrev pub invariant-loop-i : goal.invariant-loop-i
invariant-loop-i l = is_distinct (take l.i l.components) ≡ true
