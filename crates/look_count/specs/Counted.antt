-- Numbers of looks.
use Rattle.std.specs.Prelude.{ℕ, ◌+◌, min}
use Rattle.look_count.specs.declared.looks.TheConstants.{LOOK_LIMIT}

-- so many looks more; the number stands still at its limit
abbrev pub looked : ℕ → ℕ → ℕ
looked looks more = min (looks + more) LOOK_LIMIT
