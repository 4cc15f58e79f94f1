use Rattle.std.proofs.Common.{◌∙◌, ◌<◌, Err, ap, sym, refl, length, arith}
use Rattle.std.proofs.lemmas.Bool.{eqb-true, eqb-false}
use Rattle.std.proofs.lemmas.Result.{err_from_is_err_and}
use Rattle.ber_values.specs.declared.fault.BerFault.{BerFault}
use Rattle.session_profile.specs.Rules.{all_parameters_in}
use Rattle.session_profile.specs.Connections.{item}
use Rattle.session_profile.specs.Seen.{taken_parameter_of}
use Rattle.session_profile.proofs.Connections.{item_next}
use Rattle.session_profile.proofs.Rules.{rest_end, rest_fault, rest_step}
use Rattle.session_profile.proofs.connection.read_item.Goals as goal

pub loop-rest-init : goal.loop-rest-init
unfolding all_parameters_in item
loop-rest-init c = (refl, c.requires)

pub returns-in_err-parameter : goal.returns-in_err-parameter
returns-in_err-parameter c =
    let p = err_from_is_err_and c.from_residual.result c.from_residual.ensures.1 in
    let lt : 0 < length c.loop-rest.rest.now = omega (arith, eqb-false (length c.loop-rest.rest.now) 0 (sym c.loop-rest-test.ensures)) in
    let e = rest_fault item c.loop-rest.versioned c.loop-rest.place c.loop-rest.rest.now c.in_err-parameter.field-0.0 lt (item_next c.loop-rest.versioned c.loop-rest.place c.loop-rest.rest.now lt ∙ c.in_err-parameter.ensures.exact) in
    rw p.1 (ap (λ (f : BerFault). Err f) p.2 ∙ sym (c.loop-rest.invariant.0 ∙ e))

pub loop-rest-preserved : goal.loop-rest-preserved
unfolding item
loop-rest-preserved c =
    let lt : 0 < length c.loop-rest.rest.now = omega (arith, eqb-false (length c.loop-rest.rest.now) 0 (sym c.loop-rest-test.ensures)) in
    let w = c.in_ok-parameter.ensures.within in
    let e = rest_step item c.loop-rest.versioned c.loop-rest.place c.loop-rest.rest.now (taken_parameter_of c.in_ok-parameter.parameter) lt (item_next c.loop-rest.versioned c.loop-rest.place c.loop-rest.rest.now lt ∙ c.in_ok-parameter.ensures.exact) in
    (c.loop-rest.invariant.0 ∙ e, omega (arith, w.rest, c.loop-rest.invariant.1))

pub returns : goal.returns
returns c = c.finish_item.ensures ∙ sym (c.loop-rest.invariant.0 ∙ rest_end item c.loop-rest.versioned c.loop-rest.place c.loop-rest.rest.now (eqb-true (length c.loop-rest.rest.now) 0 (sym c.loop-rest-test.ensures)))
