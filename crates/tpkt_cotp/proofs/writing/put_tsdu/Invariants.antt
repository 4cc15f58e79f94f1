use Rattle.std.proofs.Common.{◌-◌, length}
use Rattle.tpkt_cotp.proofs.Cutting.{CutSoFar}
use Rattle.tpkt_cotp.proofs.writing.put_tsdu.Given as goal

abbrev pub invariant-loop-rest : goal.invariant-loop-rest
invariant-loop-rest l = CutSoFar (l.fn.size - 3) l.fn.octets l.rest l.fn.out.items l.out.items

abbrev pub decreases-loop-rest : goal.decreases-loop-rest
decreases-loop-rest l = length l.rest
