use Rattle.std.proofs.Common.{◌≡◌, take}
use Rattle.tase_resume.proofs.reading.entries_of.Given as goal

abbrev pub invariant-loop-place : goal.invariant-loop-place
invariant-loop-place l = l.entries ≡ take l.place l.node.history
