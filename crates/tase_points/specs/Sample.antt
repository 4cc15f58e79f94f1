-- The value of a point, as contracts see it.
use Rattle.std.specs.Prelude.{ℕ}
use Rattle.tase_points.specs.declared.body.Body.{Body}

-- what a point has at a moment: its body, its flags, and its time as seconds since 1970 and
-- milliseconds
pub record Sample : Type 0 where
  pub body : Body
  pub flags : ℕ
  pub seconds : ℕ
  pub millis : ℕ
