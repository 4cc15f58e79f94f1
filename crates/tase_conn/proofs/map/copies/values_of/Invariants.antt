use Rattle.std.proofs.Common.{◌≡◌, take}
use Rattle.tase_conn.proofs.map.copies.values_of.Given as goal

abbrev pub invariant-loop-value : goal.invariant-loop-value
invariant-loop-value l = l.values ≡ take l.value-index l.listed
