-- What both begin with from the place on.
use Rattle.std.proofs.Common.{◌≡◌, ◌+◌, ◌-◌, ◌≤◌, length, drop}
use Rattle.tase_verify.specs.Association.Verdicts as verdicts
use Rattle.tase_verify.proofs.association.verdict.common.Given as goal

abbrev pub invariant-loop-place : goal.invariant-loop-place
invariant-loop-place l = record {
  got : l.place ≤ length l.got;
  want : l.place ≤ length l.want;
  same : l.place + verdicts.common (drop l.place l.got) (drop l.place l.want)
      ≡ verdicts.common l.got l.want;
}

abbrev pub decreases-loop-place : goal.decreases-loop-place
decreases-loop-place l = length l.got - l.place
