use Rattle.std.proofs.Common.{◌≡◌, take}
use Rattle.tase_conn.proofs.map.copies.data_of.Given as goal

abbrev pub invariant-loop-value : goal.invariant-loop-value
invariant-loop-value l = l.data ≡ take l.value-index l.values
