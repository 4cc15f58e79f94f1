-- The loop over variables reads what their grammar reads.
use Rattle.std.proofs.Common.{arith}
use Rattle.std.proofs.lemmas.Result.{err_from_is_err_and}
use Rattle.ber_values.proofs.Lists.{some_left, none_left, members-begin, members-more}
use Rattle.ber_values.proofs.Lists.{members-stop, members-short, members-end}
use Rattle.mms_services.specs.Access.Specifications.{variable, variables}
use Rattle.mms_services.proofs.access.spec.variables_from.Goals as goal

pub loop-rest-init : goal.loop-rest-init
unfolding variables
loop-rest-init c = rw c.new-names.ensures
    (members-begin variable 1 c.args.part.now.head
    c.args.part.now.contents.now c.requires)

pub returns-in_err-name : goal.returns-in_err-name
returns-in_err-name c =
    let p = err_from_is_err_and c.from_residual.result c.from_residual.ensures.1 in
    rw (p.1, p.2) (members-stop c.loop-rest.invariant (some_left c.loop-rest.rest.now c.is_empty.result
    c.is_empty.ensures c.loop-rest-test.true) c.in_err-name.field-0.0
    c.in_err-name.ensures.exact)

pub loop-rest-preserved : goal.loop-rest-preserved
loop-rest-preserved c =
    let within = c.in_ok-name.ensures.within in
    rw (c.octets_from-rest.ensures, c.in_ok-push.ensures.ok) (members-more c.loop-rest.invariant
    (some_left c.loop-rest.rest.now c.is_empty.result
    c.is_empty.ensures c.loop-rest-test.true) c.in_ok-name.name c.in_ok-name.next
    c.in_ok-name.ensures.exact within.0 within.1)

pub returns-then-len-eq0 : goal.returns-then-len-eq0
returns-then-len-eq0 c =
    rw c.short.ensures (members-short c.loop-rest.invariant (none_left c.loop-rest.rest.now c.is_empty.result
    c.is_empty.ensures c.loop-rest-test.false)
    (omega (arith, c.len.ensures, c.if-len-eq0.true)))

pub returns : goal.returns
returns c =
    members-end c.loop-rest.invariant (none_left c.loop-rest.rest.now c.is_empty.result
    c.is_empty.ensures c.loop-rest-test.false) (omega (arith, c.len.ensures, c.if-len-eq0.false))
