-- The loop over members reads what their list's grammar reads.
use Rattle.std.proofs.Common.{arith}
use Rattle.std.proofs.lemmas.Result.{err_from_is_err_and}
use Rattle.ber_values.proofs.Lists.{some_left, none_left, members-begin, members-more}
use Rattle.ber_values.proofs.Lists.{members-stop, members-end}
use Rattle.mms_data.specs.DataOctets.{datum_within}
use Rattle.mms_data.proofs.data.octets.+levels.Goals as goal

pub members_of-loop-rest-init : goal.members_of-loop-rest-init
members_of-loop-rest-init t c = rw c.new-members.ensures
    (members-begin (datum_within c.args.levels) 0 c.args.part.now.head
    c.args.part.now.contents.now c.requires)

pub members_of-returns-in_err-member : goal.members_of-returns-in_err-member
members_of-returns-in_err-member t c =
    let p = err_from_is_err_and c.from_residual.result c.from_residual.ensures.1 in
    rw (p.1, p.2) (members-stop c.loop-rest.invariant (some_left c.loop-rest.rest.now c.is_empty.result
    c.is_empty.ensures c.loop-rest-test.true) c.in_err-member.field-0.0
    c.in_err-member.ensures.exact)

pub members_of-loop-rest-preserved : goal.members_of-loop-rest-preserved
members_of-loop-rest-preserved t c =
    let within = c.in_ok-member.ensures.within in
    rw (c.octets_from-rest.ensures, c.in_ok-push.ensures.ok) (members-more c.loop-rest.invariant
    (some_left c.loop-rest.rest.now c.is_empty.result
    c.is_empty.ensures c.loop-rest-test.true) c.in_ok-member.member c.in_ok-member.next
    c.in_ok-member.ensures.exact (omega (arith, within.0)) within.1)

pub members_of-returns : goal.members_of-returns
members_of-returns t c =
    members-end c.loop-rest.invariant (none_left c.loop-rest.rest.now c.is_empty.result
    c.is_empty.ensures c.loop-rest-test.false) (omega arith)
