-- The loop over what came of each variable reads what their grammar reads.
use Rattle.std.proofs.Common.{arith}
use Rattle.std.proofs.lemmas.Result.{err_from_is_err_and}
use Rattle.ber_values.specs.declared.stop.Stop.TheVariants as stops
use Rattle.ber_values.proofs.Lists.{some_left, none_left, members-begin, members-more}
use Rattle.ber_values.proofs.Lists.{members-stop, members-end}
use Rattle.mms_services.specs.Access.Writes.{one_written}
use Rattle.mms_services.proofs.access.write.written_from.Goals as goal

pub loop-rest-init : goal.loop-rest-init
loop-rest-init c = rw c.new-results.ensures
    (members-begin one_written 0 c.args.part.now.head
    c.args.part.now.contents.now c.requires)

pub returns-in_err-written : goal.returns-in_err-written
returns-in_err-written c =
    let p = err_from_is_err_and c.from_residual.result c.from_residual.ensures.1 in
    rw (p.1, p.2) (members-stop c.loop-rest.invariant (some_left c.loop-rest.rest.now c.is_empty.result
    c.is_empty.ensures c.loop-rest-test.true) (stops.Fault c.in_err-written.field-0.0)
    c.in_err-written.ensures.exact)

pub loop-rest-preserved : goal.loop-rest-preserved
loop-rest-preserved c =
    let within = c.in_ok-written.ensures.within in
    rw (c.octets_from-rest.ensures, c.in_ok-push.ensures.ok) (members-more c.loop-rest.invariant
    (some_left c.loop-rest.rest.now c.is_empty.result
    c.is_empty.ensures c.loop-rest-test.true) c.in_ok-written.written c.in_ok-written.next
    c.in_ok-written.ensures.exact within.0 within.1)

pub returns : goal.returns
returns c =
    members-end c.loop-rest.invariant (none_left c.loop-rest.rest.now c.is_empty.result
    c.is_empty.ensures c.loop-rest-test.false) (omega arith)
