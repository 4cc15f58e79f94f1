use Rattle.tase_points.specs.Same.{same_component}
use Rattle.tase_audit.proofs.Pairwise.{Decided}
use Rattle.tase_audit.proofs.owns.same_components.Given as goal

abbrev pub invariant-loop-place : goal.invariant-loop-place
invariant-loop-place l = Decided same_component l.one l.other l.place
