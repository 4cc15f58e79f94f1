-- The tests of kinds and of components pass exactly where the two are one.
use Rattle.std.proofs.Common.{◌≡◌, true, refl}
use Rattle.std.proofs.lemmas.Bool.{false≢true}
use Rattle.tase_points.specs.declared.kind.Kind.{Kind}
use Rattle.tase_points.specs.declared.kind.Kind.TheVariants.{State, Discrete, Real}
use Rattle.tase_points.specs.declared.layout.Component.{Component}
use Rattle.tase_points.specs.declared.layout.Component.TheVariants.{Value, Time, Millis, Flags, Cov}
use Rattle.tase_points.specs.Same.{same_kind, same_component}

pub same_kind-true : (a b : Kind) → same_kind a b ≡ true → a ≡ b
same_kind-true State State same = refl
same_kind-true Discrete Discrete same = refl
same_kind-true Real Real same = refl
same_kind-true _ _ same = absurd (false≢true same)

pub same_kind-same : (a : Kind) → same_kind a a ≡ true
same_kind-same State = refl
same_kind-same Discrete = refl
same_kind-same Real = refl

pub same_component-true : (a b : Component) → same_component a b ≡ true → a ≡ b
same_component-true Value Value same = refl
same_component-true Time Time same = refl
same_component-true Millis Millis same = refl
same_component-true Flags Flags same = refl
same_component-true Cov Cov same = refl
same_component-true _ _ same = absurd (false≢true same)

pub same_component-same : (a : Component) → same_component a a ≡ true
same_component-same Value = refl
same_component-same Time = refl
same_component-same Millis = refl
same_component-same Flags = refl
same_component-same Cov = refl
