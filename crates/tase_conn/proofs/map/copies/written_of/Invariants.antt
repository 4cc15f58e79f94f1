use Rattle.std.proofs.Common.{◌≡◌, take}
use Rattle.tase_conn.proofs.map.copies.written_of.Given as goal

abbrev pub invariant-loop-one : goal.invariant-loop-one
invariant-loop-one l = l.copies ≡ take l.one-index l.written
