use Rattle.tase_views.specs.OwnTables.{own_point}
use Rattle.tase_audit.specs.Owns.{same_own_point}
use Rattle.tase_audit.proofs.Pairwise.{Decided}
use Rattle.tase_audit.proofs.owns.same_sees.Given as goal

abbrev pub invariant-loop-place : goal.invariant-loop-place
invariant-loop-place l =
    Decided (λ x y. same_own_point (own_point l.one x) (own_point l.other y)) l.sees l.theirs
    l.place
