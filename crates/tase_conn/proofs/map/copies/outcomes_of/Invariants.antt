use Rattle.std.proofs.Common.{◌≡◌, take}
use Rattle.tase_conn.proofs.map.copies.outcomes_of.Given as goal

abbrev pub invariant-loop-outcome : goal.invariant-loop-outcome
invariant-loop-outcome l = l.copies ≡ take l.outcome-index l.outcomes
