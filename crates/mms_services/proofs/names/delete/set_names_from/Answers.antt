use Rattle.std.proofs.Common.{arith}
use Rattle.std.proofs.lemmas.Result.{err_from_is_err_and}
use Rattle.ber_values.proofs.Lists.{some_left, none_left, members-begin, members-more}
use Rattle.ber_values.proofs.Lists.{members-stop, members-short, members-end}
use Rattle.mms_data.specs.NameOctets.{one_name}
use Rattle.mms_services.specs.Names.Deletes.{set_names}
use Rattle.mms_services.proofs.names.delete.set_names_from.Goals as goal

pub loop-rest-init : goal.loop-rest-init
unfolding set_names
loop-rest-init c = rw c.new-sets.ensures
    (members-begin one_name 1 c.args.part.now.head
    c.args.part.now.contents.now c.requires)

pub returns-in_err-one : goal.returns-in_err-one
returns-in_err-one c =
    let p = err_from_is_err_and c.from_residual.result c.from_residual.ensures.1 in
    rw (p.1, p.2) (members-stop c.loop-rest.invariant (some_left c.loop-rest.rest.now c.is_empty.result
    c.is_empty.ensures c.loop-rest-test.true) c.in_err-one.field-0.0
    c.in_err-one.ensures.exact)

pub loop-rest-preserved : goal.loop-rest-preserved
loop-rest-preserved c =
    let within = c.in_ok-one.ensures.within in
    rw (c.octets_from-rest.ensures, c.in_ok-push.ensures.ok) (members-more c.loop-rest.invariant
    (some_left c.loop-rest.rest.now c.is_empty.result
    c.is_empty.ensures c.loop-rest-test.true) c.in_ok-one.one c.in_ok-one.next
    c.in_ok-one.ensures.exact (omega (arith, within.0)) within.1)

pub returns-then-len-eq0 : goal.returns-then-len-eq0
returns-then-len-eq0 c =
    rw c.short.ensures (members-short c.loop-rest.invariant (none_left c.loop-rest.rest.now c.is_empty.result
    c.is_empty.ensures c.loop-rest-test.false)
    (omega (arith, c.len.ensures, c.if-len-eq0.true)))

pub returns : goal.returns
returns c =
    members-end c.loop-rest.invariant (none_left c.loop-rest.rest.now c.is_empty.result
    c.is_empty.ensures c.loop-rest-test.false) (omega (arith, c.len.ensures, c.if-len-eq0.false))
