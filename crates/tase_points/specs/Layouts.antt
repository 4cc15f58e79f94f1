-- Which lists of components are layouts.
use Rattle.std.specs.Prelude.{◌≢◌, ◌<◌, List, length, AllPairs}
use Rattle.tase_points.specs.declared.layout.Component.{Component}

-- at least one component, and none twice
pub record IsLayout (components : List Component) : Type 0 where
  pub nonempty : 0 < length components
  pub distinct : AllPairs (λ a b. a ≢ b) components
