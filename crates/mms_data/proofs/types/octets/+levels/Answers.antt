-- The loop over components reads what their list's grammar reads.
use Rattle.std.proofs.Common.{arith}
use Rattle.std.proofs.lemmas.Result.{err_from_is_err_and}
use Rattle.ber_values.proofs.Lists.{some_left, none_left, members-begin, members-more}
use Rattle.ber_values.proofs.Lists.{members-stop, members-end}
use Rattle.mms_data.specs.Types.ShapeOctets.{component_in, shape_within}
use Rattle.mms_data.proofs.types.octets.+levels.Goals as goal

pub components_of-loop-rest-init : goal.components_of-loop-rest-init
components_of-loop-rest-init t c = rw c.new-components.ensures
    (members-begin (component_in (shape_within c.args.levels)) 0 c.args.part.now.head
    c.args.part.now.contents.now c.requires)

pub components_of-returns-in_err-component : goal.components_of-returns-in_err-component
components_of-returns-in_err-component t c =
    let p = err_from_is_err_and c.from_residual.result c.from_residual.ensures.1 in
    rw (p.1, p.2) (members-stop c.loop-rest.invariant (some_left c.loop-rest.rest.now
    c.is_empty.result c.is_empty.ensures c.loop-rest-test.true) c.in_err-component.field-0.0
    c.in_err-component.ensures.exact)

pub components_of-loop-rest-preserved : goal.components_of-loop-rest-preserved
components_of-loop-rest-preserved t c =
    let within = c.in_ok-component.ensures.within in
    rw (c.octets_from-rest.ensures, c.in_ok-push.ensures.ok) (members-more c.loop-rest.invariant
    (some_left c.loop-rest.rest.now c.is_empty.result
    c.is_empty.ensures c.loop-rest-test.true) c.in_ok-component.component c.in_ok-component.next
    c.in_ok-component.ensures.exact (omega (arith, within.0)) within.1)

pub components_of-returns : goal.components_of-returns
components_of-returns t c =
    members-end c.loop-rest.invariant (none_left c.loop-rest.rest.now c.is_empty.result
    c.is_empty.ensures c.loop-rest-test.false) (omega arith)
