use Rattle.std.proofs.lemmas.Result.{err_from_is_err_and}
use Rattle.acse_assoc.proofs.RisingLoop.{rising-begin, rising-ends, rising-more, rising-fails}
use Rattle.acse_assoc.proofs.rising.pass_rising.Goals as goal

pub loop-left-init : goal.loop-left-init
loop-left-init c =
    rising-begin c.args.number c.args.from c.args.at c.args.octets.now c.requires.placed

pub returns-in_err-pass_one-clause-exact : goal.returns-in_err-pass_one-clause-exact
returns-in_err-pass_one-clause-exact c =
    let p = err_from_is_err_and c.from_residual.result c.from_residual.ensures.1 in
    let left = c.loop-left.left in
    rw (p.1, p.2) (rising-fails c.args.number c.args.from c.args.at c.args.octets.now left.least
    left.at left.octets.now c.in_err-pass_one.field-0.0 c.in_err-pass_one.ensures.some
    c.in_err-pass_one.ensures.exact c.loop-left.invariant)

pub returns-in-None-clause-exact : goal.returns-in-None-clause-exact
returns-in-None-clause-exact c =
    let left = c.loop-left.left in
    rising-ends c.args.number c.args.from c.args.at c.args.octets.now left.least left.at
    left.octets.now (rw c.in-None.is at c.in_ok-pass_one.ensures.exact) c.loop-left.invariant

pub loop-left-preserved : goal.loop-left-preserved
loop-left-preserved c =
    let left = c.loop-left.left in
    let exact = rw c.in-Some.is at c.in_ok-pass_one.ensures.exact in
    let within = rw c.in-Some.is at c.in_ok-pass_one.ensures.within in
    rw c.octets_from.ensures (rising-more c.args.number c.args.from c.args.at c.args.octets.now
    left.least left.at left.octets.now c.in-Some.least c.in-Some.next exact within.0 within.1
    c.loop-left.invariant)
