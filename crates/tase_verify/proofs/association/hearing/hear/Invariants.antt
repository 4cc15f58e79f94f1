-- All that was fed so far was heard.
use Rattle.std.proofs.Common.{◌≡◌, ℕ, List, ◌++◌, length, false}
use Rattle.stack_assoc.specs.Courses.{is_offered}
use Rattle.tase_verify.specs.Association.Hearing.{HearsAll}
use Rattle.tase_verify.proofs.association.hearing.hear.Given as goal

abbrev pub invariant-loop-rest : goal.invariant-loop-rest
invariant-loop-rest l = record {
  fed : List ℕ;
  whole : fed ++ l.rest ≡ l.octets;
  hears : HearsAll fed l.heard;
  free : is_offered l.heard.stack.standing ≡ false;
}

abbrev pub decreases-loop-rest : goal.decreases-loop-rest
decreases-loop-rest l = length l.rest
