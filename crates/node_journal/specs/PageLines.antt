-- What contracts see of lines of which more may be taken.
use Rattle.std.specs.Prelude.{ℕ, List}

-- lines in order; how many more of them there is room for, and how many octets these may have
-- together
pub record PageLines : Type 0 where
  pub lines : List (List ℕ)
  pub spare_lines : ℕ
  pub spare_octets : ℕ
