-- What reading a datum leaves at zero, and which bodies it can find.
use Rattle.std.specs.Prelude.{◌≡◌, ◌≤ℤ◌, pos, negsuc, List}
use Rattle.std.specs.List.{Contains}
use Rattle.tase_points.specs.declared.kind.Kind.TheVariants as kinds
use Rattle.tase_points.specs.declared.body.Body.{Body}
use Rattle.tase_points.specs.declared.body.Body.TheVariants.{State, Discrete, Real}
use Rattle.tase_points.specs.declared.layout.Component.{Component}
use Rattle.tase_points.specs.declared.layout.Component.TheVariants.{Value, Time, Millis, Flags}
use Rattle.tase_points.specs.Points.{kind_of, zero_body}
use Rattle.tase_points.specs.Sample.{Sample}

-- a discrete value has 32 bits
abbrev pub FitsBody : Body → Type 0
FitsBody (State s) = Unit {0}
FitsBody (Discrete d) = (negsuc 2147483647 ≤ℤ d) × (d ≤ℤ pos 2147483647)
FitsBody (Real r) = Unit {0}

-- what a layout doesn't carry is zero
pub record IsBare (layout : List Component) (v : Sample) : Type 0 where
  pub body : ¬ Contains layout Value → v.body ≡ zero_body (kind_of v.body)
  pub flags : ¬ Contains layout Flags → ¬ (Contains layout Value × (kind_of v.body ≡ kinds.State))
      → v.flags ≡ 0
  pub time : ¬ Contains layout Time → v.seconds ≡ 0
  pub millis : ¬ Contains layout Millis → v.millis ≡ 0
