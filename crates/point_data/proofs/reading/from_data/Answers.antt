use Rattle.std.proofs.Common.{◌≡◌, ◌∙◌, List, true, false, ap, subst, refl, arith, rules}
use Rattle.tase_points.specs.declared.layout.Component.{Component}
use Rattle.tase_points.specs.Sample.{Sample}
use Rattle.point_data.specs.Bare.{IsBare}
use Rattle.point_data.specs.Shown.{shown_as}
use Rattle.point_data.proofs.Found.{shown_as-agreeing, IsBare-absent}
use Rattle.point_data.proofs.reading.from_data.Goals as goal

pub returns-then-is_shown-clause-bare : goal.returns-then-is_shown-clause-bare
returns-then-is_shown-clause-bare c =
    let made = c.new-candidate.ensures in
    let P : List Component → Type 0 = λ layout. IsBare layout c.new-candidate.result in
    subst P c.as_slice-components.ensures.value
    (IsBare-absent c.as_slice-components.result.now c.args.kind c.new-candidate.result
    (search rules)
    (λ no. ap (λ (s : Sample). s.body) made ∙ c.body_in.ensures.absent no)
    (λ no. ap (λ (s : Sample). s.flags) made ∙ c.flags_in.ensures.absent no)
    (λ no. ap (λ (s : Sample). s.seconds) made ∙ c.number_in.ensures.absent no)
    (λ no. ap (λ (s : Sample). s.millis) made ∙ c.number_in-2.ensures.absent no))

pub returns-else-is_shown-clause-none : goal.returns-else-is_shown-clause-none
returns-else-is_shown-clause-none c =
    λ v cov sample fits kind small found.
    let made = c.new-candidate.ensures in
    let shown = ap (shown_as v cov) c.as_slice-components.ensures.value ∙ found in
    let same : false ≡ true = c.if-is_shown.ensures.1
    (shown_as-agreeing c.as_slice-components.result.now c.args.value.now c.args.kind
    c.new-candidate.result v c.count_in-cov.result cov shown kind
    (λ h. ap (λ (s : Sample). s.body) made ∙ c.body_in.ensures.shown h v cov sample fits kind shown)
    (λ h. ap (λ (s : Sample). s.flags) made ∙ c.flags_in.ensures.shown h v cov sample kind shown)
    (λ h. ap (λ (s : Sample). s.seconds) made
    ∙ c.number_in.ensures.shown h v cov v.seconds (let e = sample.seconds in omega arith)
    refl shown)
    (λ h. ap (λ (s : Sample). s.millis) made
    ∙ c.number_in-2.ensures.shown h v cov v.millis
    (let e = sample.millis in omega (arith, c.from.ensures)) refl shown)
    (λ h. c.count_in-cov.ensures h v cov small shown)) in cc
