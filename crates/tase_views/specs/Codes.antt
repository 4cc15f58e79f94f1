-- Outcomes, names, points' values and tags as data that a proof can tell apart.
use Rattle.std.specs.Prelude.{◌≡◌, ℕ, ℤ, ◌⊎◌, List, refl}
use Rattle.std.specs.Coded.{Coded, code_by, coded×, coded⊎, coded_ℕ, coded_ℤ, coded_list}
use base.Stored.{coded_unit}
use Rattle.std.proofs.Common.{inl, inr}
use Rattle.tase_points.specs.declared.body.Body.{Body}
use Rattle.tase_points.specs.declared.body.Body.TheVariants.{State, Discrete, Real}
use Rattle.tase_points.specs.Sample.{Sample}
use Rattle.mms_data.specs.Datum.{Datum}
use Rattle.mms_data.specs.DatumCode.{datum_code}
use Rattle.mms_data.specs.declared.object_name.Scope.{Scope}
use Rattle.mms_data.specs.declared.object_name.Scope.TheVariants.{Vmd, Domain, Association}
use Rattle.mms_data.specs.ObjectName.{ObjectName}
use Rattle.mms_data.specs.declared.outcome.Outcome.{Outcome}
use Rattle.mms_data.specs.declared.outcome.Outcome.TheVariants.{Good, Fail}
use Rattle.sbo_device.specs.Moves.{Tag}

abbrev pub outcome_parts : Outcome → Datum ⊎ ℕ
outcome_parts (Good d) = inl d
outcome_parts (Fail error) = inr error

abbrev pub outcome_from : Datum ⊎ ℕ → Outcome
outcome_from (inl d) = Good d
outcome_from (inr error) = Fail error

pub outcome_from-parts : (o : Outcome) → outcome_from (outcome_parts o) ≡ o
outcome_from-parts (Good d) = refl
outcome_from-parts (Fail error) = refl

abbrev pub outcome_code : Coded Outcome
outcome_code = code_by (Datum ⊎ ℕ) (coded⊎ datum_code coded_ℕ) outcome_parts outcome_from
    outcome_from-parts

abbrev pub ScopeParts : Type 0
ScopeParts = Unit {0} ⊎ (List ℕ ⊎ Unit {0})

abbrev pub scope_parts : Scope → ScopeParts
scope_parts Vmd = inl tt
scope_parts (Domain domain) = inr (inl domain)
scope_parts Association = inr (inr tt)

abbrev pub scope_from : ScopeParts → Scope
scope_from (inl u) = Vmd
scope_from (inr (inl domain)) = Domain domain
scope_from (inr (inr u)) = Association

pub scope_from-parts : (s : Scope) → scope_from (scope_parts s) ≡ s
scope_from-parts Vmd = refl
scope_from-parts (Domain domain) = refl
scope_from-parts Association = refl

abbrev pub scope_code : Coded Scope
scope_code =
    code_by ScopeParts (coded⊎ coded_unit (coded⊎ (coded_list coded_ℕ) coded_unit)) scope_parts
    scope_from scope_from-parts

abbrev pub name_code : Coded ObjectName
name_code =
    code_by (Scope × List ℕ) (coded× scope_code (coded_list coded_ℕ)) (λ n. (n.scope, n.item))
    (λ p. record { scope = p.0; item = p.1 }) (λ _. refl)

abbrev pub BodyParts : Type 0
BodyParts = ℕ ⊎ (ℤ ⊎ List ℕ)

abbrev pub body_parts : Body → BodyParts
body_parts (State s) = inl s
body_parts (Discrete d) = inr (inl d)
body_parts (Real r) = inr (inr r)

abbrev pub body_from : BodyParts → Body
body_from (inl s) = State s
body_from (inr (inl d)) = Discrete d
body_from (inr (inr r)) = Real r

pub body_from-parts : (b : Body) → body_from (body_parts b) ≡ b
body_from-parts (State s) = refl
body_from-parts (Discrete d) = refl
body_from-parts (Real r) = refl

abbrev pub body_code : Coded Body
body_code =
    code_by BodyParts (coded⊎ coded_ℕ (coded⊎ coded_ℤ (coded_list coded_ℕ))) body_parts body_from
    body_from-parts

abbrev pub sample_code : Coded Sample
sample_code =
    code_by (Body × (ℕ × (ℕ × ℕ))) (coded× body_code (coded× coded_ℕ (coded× coded_ℕ coded_ℕ)))
    (λ s. (s.body, (s.flags, (s.seconds, s.millis))))
    (λ p. record { body = p.0; flags = p.1.0; seconds = p.1.1.0; millis = p.1.1.1 }) (λ _. refl)

abbrev pub tag_code : Coded Tag
tag_code =
    code_by (ℕ × List ℕ) (coded× coded_ℕ (coded_list coded_ℕ)) (λ t. (t.tag, t.reason))
    (λ p. record { tag = p.0; reason = p.1 }) (λ _. refl)
