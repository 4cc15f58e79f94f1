use Rattle.std.proofs.Common.{◌*◌, arith}
use Rattle.transfer_sets.proofs.FirstMoments.{next_passed}
use Rattle.transfer_sets.proofs.next_due.next_multiple.Goals as goal

pub returns : goal.returns
returns c = rw (c.below_limit.ensures, c.saturating_sub.ensures, c.from-period.ensures)
    (next_passed c.args.base (c.args.seconds * 1000) c.args.from
    (omega (arith, c.if-seconds-eq0.false)))
