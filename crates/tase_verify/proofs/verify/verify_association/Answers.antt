use Rattle.std.proofs.Common.{◌≡◌, ℕ, List, Option, None, ap, sym, subst, ◌∙◌}
use Rattle.std.specs.Prelude.{IfOk}
use Rattle.sbo_device.specs.declared.key.Key.{Key}
use Rattle.tase_verify.specs.Association.Stray.{events_entered, events_asked, first_stray}
use Rattle.tase_verify.specs.Association.Verdicts.{Judges, verdict_of}
use Rattle.tase_verify.specs.Verifying.{answered_for, stray_for, verdict_for}
use Rattle.tase_verify.proofs.verify.verify_association.Goals as goal

pub returns-in-Some-clause-account : goal.returns-in-Some-clause-account
returns-in-Some-clause-account c =
    λ setup past same events.
    let rows = c.args.centre.now in
    let given = c.args.given.now in
    let key = c.in-Some.field-0 in
    let checked = c.check_association.ensures.account setup past key same
    (events ∙ ap (λ (k : Option Key). answered_for setup k past) c.in-Some.is) in
    subst (λ (k : Option Key). IfOk c.check_association.result
    (Judges (verdict_for rows past k given.octets.items given.ended))) (sym c.in-Some.is)
    (subst (λ (octets : List ℕ). IfOk c.check_association.result
    (Judges (verdict_of rows past key octets given.ended))) c.as_slice.ensures.value checked)

pub returns-in-Some-clause-stray : goal.returns-in-Some-clause-stray
returns-in-Some-clause-stray c =
    λ setup past same events lack.
    let rows = c.args.centre.now in
    let given = c.args.given.now in
    let key = c.in-Some.field-0 in
    let found = c.check_association.ensures.memory setup past key same
    (events ∙ ap (λ (k : Option Key). answered_for setup k past) c.in-Some.is) lack in
    subst (λ (k : Option Key). stray_for rows past k given.octets.items given.ended ≡ None)
    (sym c.in-Some.is)
    (subst (λ (octets : List ℕ). first_stray (events_entered key past)
    (events_asked rows octets given.ended) ≡ None) c.as_slice.ensures.value found)

pub returns-in-None-clause-stray : goal.returns-in-None-clause-stray
returns-in-None-clause-stray c = λ setup past same events lack. absurd cc
