use Rattle.std.proofs.Common.{◌<◌, ◌+◌, ◌++◌, ◌∷◌, ℕ, [], List, length, map, drop, refl, sym, subst}
use Rattle.std.proofs.Common.{ap, ◌∙◌, arith, length-append}
use Rattle.std.specs.List.{All}
use Rattle.std.proofs.lemmas.List.Elements.{All-nil}
use Rattle.mms_data.specs.declared.outcome.Outcome.{Outcome}
use Rattle.mms_data.specs.ObjectName.{ObjectName}
use Rattle.mms_data.specs.OutcomeOctets.{IsLawfulOutcome}
use Rattle.tase_views.specs.View.{View}
use Rattle.tase_views.specs.Reports.{Told, told_of}
use Rattle.node_core.specs.Objects.Found.{offered}
use Rattle.node_core.proofs.OfReplies.Answered.{All-pushed}
use Rattle.node_core.proofs.OfReplies.ReportsMade.{stepped, none_left}
use Rattle.node_core.proofs.replies.reports.results_of.Goals as goal

pub loop-name-init : goal.loop-name-init
loop-name-init c =
    let o = c.args.occasion in
    let outcomes = λ (view : View) (names : List ObjectName). map (λ (t : Told). t.outcome)
    (told_of (offered c.args.shown.now.table) view o.slot o.now o.conditions names) in
    record {
      value = λ updates tables view s. ap (λ (done : List Outcome). done
          ++ outcomes view c.as_slice-name-items.result.now) c.new-results.ensures;
      many = ap (λ (done : List Outcome). length done) c.new-results.ensures;
      lawful = subst (All IsLawfulOutcome) (sym c.new-results.ensures) (All-nil IsLawfulOutcome);
    }

pub loop-name-preserved : goal.loop-name-preserved
loop-name-preserved c =
    let o = c.args.occasion in
    let names = c.as_slice-name-items.result.now in
    let within : c.loop-name.name-index < length names = omega arith in
    let outcomes = λ (view : View) (names : List ObjectName). map (λ (t : Told). t.outcome)
    (told_of (offered c.args.shown.now.table) view o.slot o.now o.conditions names) in
    record {
      value = λ updates tables view s.
          stepped (outcomes view) names c.loop-name.name-index c.name-item.result
          c.loop-name.results c.push.new.self (c.in_ok-member_told.field-0 ∷ []) within
          c.name-item.is c.in_ok-push.ensures.ok
          (ap (λ (outcome : Outcome). outcome
          ∷ outcomes view (drop (c.loop-name.name-index + 1) names))
          (sym (c.in_ok-member_told.ensures.value updates tables view s)))
          ∙ c.loop-name.invariant.value updates tables view s;
      many = ap (λ (done : List Outcome). length done) c.in_ok-push.ensures.ok
          ∙ length-append c.loop-name.results (c.in_ok-member_told.field-0 ∷ [])
          ∙ ap (λ (n : ℕ). n + 1) c.loop-name.invariant.many;
      lawful = All-pushed IsLawfulOutcome _ _ _ c.in_ok-push.ensures.ok c.loop-name.invariant.lawful
          c.in_ok-member_told.ensures.lawful;
    }

pub returns-clause-value : goal.returns-clause-value
returns-clause-value c = λ updates tables view s.
    let o = c.args.occasion in
    let names = c.as_slice-name-items.result.now in
    let outcomes = λ (names : List ObjectName). map (λ (t : Told). t.outcome)
    (told_of (offered c.args.shown.now.table) view o.slot o.now o.conditions names) in
    none_left outcomes names c.loop-name.name-index c.loop-name.results (omega arith) refl
    ∙ c.loop-name.invariant.value updates tables view s
    ∙ ap outcomes c.as_slice-name-items.ensures

pub returns-clause-many : goal.returns-clause-many
returns-clause-many c =
    let same = ap (λ (names : List ObjectName). length names) c.as_slice-name-items.ensures in
    omega (arith, same, c.loop-name.invariant.many)
