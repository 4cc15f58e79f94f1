-- What a node is set up with.
use Rattle.std.specs.Prelude.{ℕ}
use Rattle.bilateral.specs.Rows.{CentreRows}

-- the centre's tables, and the limit on the weight of the history
pub record Setup : Type 0 where
  pub centre : CentreRows
  pub limit : ℕ
