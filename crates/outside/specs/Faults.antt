-- The count of faults of an object outside. It stands still at its type's end.
use Rattle.std.specs.Prelude.{Bool, true, false, ℕ, ◌+◌, ◌-◌, ◌^◌, max, min}

-- a count with one more; at the type's end it stands still
abbrev pub next_count : ℕ → ℕ
next_count n = max n (min (n + 1) (2 ^ 64 - 1))

-- the count with one more where there was a fault
abbrev pub counted : Bool → ℕ → ℕ
counted true n = next_count n
counted false n = n
