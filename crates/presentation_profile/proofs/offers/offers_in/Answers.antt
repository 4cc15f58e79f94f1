-- The loop reads what the grammar of a counted list reads.
use Rattle.std.proofs.Common.{arith}
use Rattle.std.proofs.lemmas.Result.{err_from_is_err_and}
use Rattle.ber_values.proofs.Counted.{counted-begin, counted-more, counted-stop, counted-full}
use Rattle.ber_values.proofs.Counted.{counted-short, counted-end}
use Rattle.presentation_profile.specs.declared.offers.TheConstants.{MOST_OFFERS}
use Rattle.presentation_profile.specs.Offers.{offer}
use Rattle.presentation_profile.proofs.offers.offers_in.Goals as goal

pub loop-rest-init : goal.loop-rest-init
loop-rest-init c = rw c.new-offered.ensures
    (counted-begin offer 1 MOST_OFFERS c.args.part.now.head c.args.part.now.contents.now c.requires)

pub returns-then-len-eq-MOST_OFFERS : goal.returns-then-len-eq-MOST_OFFERS
returns-then-len-eq-MOST_OFFERS c =
    rw c.surplus.ensures (counted-full c.loop-rest.invariant c.is_empty.result c.is_empty.ensures
    c.loop-rest-test.true (omega (arith, c.len.ensures, c.if-len-eq-MOST_OFFERS.true)))

pub returns-in_err-one : goal.returns-in_err-one
returns-in_err-one c =
    let p = err_from_is_err_and c.from_residual.result c.from_residual.ensures.1 in
    rw (p.1, p.2) (counted-stop c.loop-rest.invariant c.is_empty.result c.is_empty.ensures
    c.loop-rest-test.true (omega (arith, c.len.ensures, c.if-len-eq-MOST_OFFERS.false, c.loop-rest.invariant.few))
    c.in_err-one.field-0.0 c.in_err-one.ensures.exact)

pub loop-rest-preserved : goal.loop-rest-preserved
loop-rest-preserved c =
    let within = c.in_ok-one.ensures.within in
    rw (c.octets_from-rest.ensures, c.in_ok-push.ensures.ok) (counted-more c.loop-rest.invariant
    c.is_empty.result c.is_empty.ensures c.loop-rest-test.true
    (omega (arith, c.len.ensures, c.if-len-eq-MOST_OFFERS.false, c.loop-rest.invariant.few)) c.in_ok-one.one
    c.in_ok-one.next c.in_ok-one.ensures.exact within.0 within.1)

pub returns-then-len-eq0 : goal.returns-then-len-eq0
returns-then-len-eq0 c =
    rw c.short.ensures (counted-short c.loop-rest.invariant c.is_empty.result c.is_empty.ensures
    c.loop-rest-test.false (omega (arith, c.len-2.ensures, c.if-len-eq0.true)))

pub returns : goal.returns
returns c =
    counted-end c.loop-rest.invariant c.is_empty.result c.is_empty.ensures c.loop-rest-test.false
    (omega (arith, c.len-2.ensures, c.if-len-eq0.false))
