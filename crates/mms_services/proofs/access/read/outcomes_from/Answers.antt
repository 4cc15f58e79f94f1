-- The loop reads what the grammar of a counted list reads.
use Rattle.std.proofs.Common.{arith}
use Rattle.std.proofs.lemmas.Result.{err_from_is_err_and}
use Rattle.ber_values.proofs.Counted.{counted-begin, counted-more, counted-stop, counted-full}
use Rattle.ber_values.proofs.Counted.{counted-short, counted-end}
use Rattle.mms_data.specs.OutcomeOctets.{one_outcome}
use Rattle.mms_services.proofs.access.read.outcomes_from.Goals as goal

pub loop-rest-init : goal.loop-rest-init
loop-rest-init c = rw c.new-outcomes.ensures
    (counted-begin one_outcome c.args.least c.args.most c.args.part.now.head c.args.part.now.contents.now c.requires)

pub returns-then-len-most : goal.returns-then-len-most
returns-then-len-most c =
    rw c.surplus.ensures (counted-full c.loop-rest.invariant c.is_empty.result c.is_empty.ensures
    c.loop-rest-test.true (omega (arith, c.len.ensures, c.if-len-most.true)))

pub returns-in_err-outcome : goal.returns-in_err-outcome
returns-in_err-outcome c =
    let p = err_from_is_err_and c.from_residual.result c.from_residual.ensures.1 in
    rw (p.1, p.2) (counted-stop c.loop-rest.invariant c.is_empty.result c.is_empty.ensures
    c.loop-rest-test.true (omega (arith, c.len.ensures, c.if-len-most.false, c.loop-rest.invariant.few))
    c.in_err-outcome.field-0.0 c.in_err-outcome.ensures.exact)

pub loop-rest-preserved : goal.loop-rest-preserved
loop-rest-preserved c =
    let within = c.in_ok-outcome.ensures.within in
    rw (c.octets_from-rest.ensures, c.in_ok-push.ensures.ok) (counted-more c.loop-rest.invariant
    c.is_empty.result c.is_empty.ensures c.loop-rest-test.true
    (omega (arith, c.len.ensures, c.if-len-most.false, c.loop-rest.invariant.few)) c.in_ok-outcome.outcome
    c.in_ok-outcome.next c.in_ok-outcome.ensures.exact (omega (arith, within.0)) within.1)

pub returns-then-len-least : goal.returns-then-len-least
returns-then-len-least c =
    rw c.short.ensures (counted-short c.loop-rest.invariant c.is_empty.result c.is_empty.ensures
    c.loop-rest-test.false (omega (arith, c.len-2.ensures, c.if-len-least.true)))

pub returns : goal.returns
returns c =
    counted-end c.loop-rest.invariant c.is_empty.result c.is_empty.ensures c.loop-rest-test.false
    (omega (arith, c.len-2.ensures, c.if-len-least.false))
