use Rattle.std.proofs.Common.{◌-◌, length}
use Rattle.tase_verify.proofs.Cutting.{ArePassed}
use Rattle.tase_verify.proofs.link_text.cut_at_end.Given as goal

abbrev pub invariant-loop-line : goal.invariant-loop-line
invariant-loop-line l = ArePassed l.text l.place l.number

abbrev pub decreases-loop-line : goal.decreases-loop-line
decreases-loop-line l = length l.text - l.place
