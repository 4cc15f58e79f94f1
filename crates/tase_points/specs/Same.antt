-- Whether two kinds, or two components, are one.
use Rattle.std.specs.Prelude.{Bool, true, false}
use Rattle.tase_points.specs.declared.kind.Kind.{Kind}
use Rattle.tase_points.specs.declared.kind.Kind.TheVariants.{State, Discrete, Real}
use Rattle.tase_points.specs.declared.layout.Component.{Component}
use Rattle.tase_points.specs.declared.layout.Component.TheVariants.{Value, Time, Millis, Flags, Cov}

abbrev pub same_kind : Kind → Kind → Bool
same_kind State State = true
same_kind Discrete Discrete = true
same_kind Real Real = true
same_kind _ _ = false

abbrev pub same_component : Component → Component → Bool
same_component Value Value = true
same_component Time Time = true
same_component Millis Millis = true
same_component Flags Flags = true
same_component Cov Cov = true
same_component _ _ = false
