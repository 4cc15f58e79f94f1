use Rattle.tase_audit.proofs.OwnsSame.{owns_told}
use Rattle.tase_audit.proofs.owns.own_equal.Goals as goal

pub returns-clause-equal : goal.returns-clause-equal
returns-clause-equal c =
    owns_told c.args.one.now c.args.other.now c.args.key.now c.same_by_key.result
    c.same_by_key.ensures
