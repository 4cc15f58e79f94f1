-- Members are smaller than what holds them.
use Rattle.std.specs.Prelude.{◌+◌, ◌*◌, ◌≤◌, List, [], ◌∷◌}
use Rattle.std.proofs.Common.{arith}
use denote.Param.Weighed.{most}
use Rattle.mms_data.specs.Datum.{Datum, depth, deepest, data_of}

-- no member is deeper than the deepest
pub most_le-deepest : (ds : List Datum)
    → most (λ d. 2 * depth d + 1) ds ≤ 2 * deepest (data_of ds) + 1
most_le-deepest [] = omega arith
most_le-deepest (d ∷ ds) = omega (arith, most_le-deepest ds)
