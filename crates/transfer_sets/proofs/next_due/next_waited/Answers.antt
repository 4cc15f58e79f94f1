use Rattle.std.proofs.Common.{◌*◌, arith}
use Rattle.transfer_sets.proofs.FirstMoments.{has_waited_long}
use Rattle.transfer_sets.proofs.next_due.next_waited.Goals as goal

pub returns : goal.returns
returns c = rw (c.in-Some.is, c.below_limit-2.ensures)
    (has_waited_long c.in-Some.first (c.args.seconds * 1000) c.args.from
    (omega (arith, c.if-from-waited.false, c.from.ensures)))
