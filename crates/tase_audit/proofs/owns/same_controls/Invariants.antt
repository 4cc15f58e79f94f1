use Rattle.tase_views.specs.OwnTables.{own_device}
use Rattle.tase_audit.specs.Owns.{same_own_device}
use Rattle.tase_audit.proofs.Pairwise.{Decided}
use Rattle.tase_audit.proofs.owns.same_controls.Given as goal

abbrev pub invariant-loop-place : goal.invariant-loop-place
invariant-loop-place l =
    Decided (λ x y. same_own_device (own_device l.one x) (own_device l.other y)) l.controls
    l.theirs l.place
