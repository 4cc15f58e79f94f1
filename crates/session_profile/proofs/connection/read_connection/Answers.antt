use Rattle.std.proofs.Common.{◌∙◌, ◌<◌, ◌+◌, Result, Err, ap, sym, subst, refl, length, arith}
use Rattle.std.proofs.lemmas.Bool.{eqb-true, eqb-false}
use Rattle.std.proofs.lemmas.Result.{err_from_is_err_and}
use Rattle.ber_values.specs.declared.fault.BerFault.{BerFault}
use Rattle.ber_values.specs.Faults.{Gives}
use Rattle.session_profile.specs.Rules.{rest_in, all_parameters_in}
use Rattle.session_profile.specs.Connections.{connection, Seen, Connection}
use Rattle.session_profile.specs.Seen.{taken_parameter_of, seen_of, connection_seen}
use Rattle.session_profile.proofs.Rules.{rest_end, rest_fault, rest_step}
use Rattle.session_profile.proofs.connection.read_connection.Goals as goal

pub loop-rest-init : goal.loop-rest-init
unfolding all_parameters_in connection
loop-rest-init c = (refl, c.requires, tt, (omega arith, refl), tt)

pub returns-in_err-parameter-clause-exact : goal.returns-in_err-parameter-clause-exact
returns-in_err-parameter-clause-exact c =
    let p = err_from_is_err_and c.from_residual.result c.from_residual.ensures.1 in
    let lt : 0 < length c.loop-rest.rest.now = omega (arith, eqb-false (length c.loop-rest.rest.now) 0 (sym c.loop-rest-test.ensures)) in
    let e = rest_fault connection (seen_of c.loop-rest.seen) c.loop-rest.place c.loop-rest.rest.now c.in_err-parameter.field-0.0 lt c.in_err-parameter.ensures.exact in
    rw p.1 (c.loop-rest.invariant.0 ∙ e ∙ sym (ap (λ (f : BerFault). Err f) p.2))

pub loop-rest-preserved : goal.loop-rest-preserved
unfolding connection
loop-rest-preserved c =
    let lt : 0 < length c.loop-rest.rest.now = omega (arith, eqb-false (length c.loop-rest.rest.now) 0 (sym c.loop-rest-test.ensures)) in
    let w = c.in_ok-parameter.ensures.within in
    let e = rest_step connection (seen_of c.loop-rest.seen) c.loop-rest.place c.loop-rest.rest.now (taken_parameter_of c.in_ok-parameter.parameter) lt c.in_ok-parameter.ensures.exact in
    (c.loop-rest.invariant.0 ∙ e ∙ ap (λ (s : Seen). rest_in connection s c.in_ok-parameter.parameter.next c.in_ok-parameter.parameter.rest.now) (sym c.with_one-seen.ensures.exact), omega (arith, w.rest, c.loop-rest.invariant.1), c.with_one-seen.ensures.called, (omega (arith, w.after_length, w.next, w.place, c.loop-rest.invariant.3.0), w.rest ∙ c.loop-rest.invariant.3.1), c.with_one-seen.ensures.within c.args.at (c.args.at + length c.args.octets.now) (omega (arith, w.after_length, c.loop-rest.invariant.3.0)) (omega (arith, w.next, w.rest, c.loop-rest.invariant.3.1)) c.loop-rest.invariant.4)

pub returns-clause-exact : goal.returns-clause-exact
returns-clause-exact c =
    let e = rest_end connection (seen_of c.loop-rest.seen) c.loop-rest.place c.loop-rest.rest.now (eqb-true (length c.loop-rest.rest.now) 0 (sym c.loop-rest-test.ensures)) in
    subst (λ (read : Result Connection BerFault). Gives connection_seen c.finish.result read) (sym (c.loop-rest.invariant.0 ∙ e)) c.finish.ensures.exact

pub returns-clause-within : goal.returns-clause-within
returns-clause-within c = c.finish.ensures.within c.args.at (c.args.at + length c.args.octets.now) c.loop-rest.invariant.4
