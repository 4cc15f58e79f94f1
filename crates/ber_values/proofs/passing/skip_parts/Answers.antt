use Rattle.std.proofs.Common.{◌∙◌, sym}
use Rattle.std.proofs.lemmas.Result.{err_from_is_err_and}
use Rattle.ber_values.specs.Passing.{skip, is_other, pass_in}
use Rattle.ber_values.proofs.Passed.{passed-begin, passed-more, passed-fails, passed-ends}
use Rattle.ber_values.proofs.passing.skip_parts.Goals as goal

pub loop-rest-init : goal.loop-rest-init
loop-rest-init c = passed-begin skip (is_other c.args.low c.args.high c.args.named.now) c.args.at c.args.octets.now c.requires

pub returns-in_err-next-clause-exact : goal.returns-in_err-next-clause-exact
unfolding pass_in
returns-in_err-next-clause-exact c =
    let p = err_from_is_err_and c.from_residual.result c.from_residual.ensures.1 in
    rw (p.1, p.2) (passed-fails skip (is_other c.args.low c.args.high c.args.named.now) c.args.at c.args.octets.now c.loop-rest.place c.loop-rest.rest.now c.in_err-next.field-0.0 (sym c.is_other.ensures ∙ c.loop-rest-test.true) c.in_err-next.ensures.exact c.loop-rest.invariant)

pub loop-rest-preserved : goal.loop-rest-preserved
loop-rest-preserved c =
    let within = c.in_ok-next.ensures.within in
    rw c.octets_from-rest.ensures (passed-more skip (is_other c.args.low c.args.high c.args.named.now) c.args.at c.args.octets.now c.loop-rest.place c.loop-rest.rest.now c.in_ok-next.next (sym c.is_other.ensures ∙ c.loop-rest-test.true) c.in_ok-next.ensures.exact within.0 within.1 c.loop-rest.invariant)

pub returns-clause-exact : goal.returns-clause-exact
unfolding pass_in
returns-clause-exact c = passed-ends skip (is_other c.args.low c.args.high c.args.named.now) c.args.at c.args.octets.now c.loop-rest.place c.loop-rest.rest.now (sym c.is_other.ensures ∙ c.loop-rest-test.false) c.loop-rest.invariant
