-- The readings that a clock in memory gave.
use Rattle.std.specs.Prelude.{ℕ, ◌+◌, ◌*◌, List, [], ◌∷◌, ◌++◌, zero, suc, filter, nat_lt}
use Rattle.outside.specs.declared.links.clock.TheConstants.{READING_LIMIT}

-- so many readings, each a second after the one before, the first a second after this one
abbrev pub readings_after : ℕ → ℕ → List ℕ
readings_after last zero = []
readings_after last (suc count) = readings_after last count ++ (last + 1000 * suc count) ∷ []

-- those of the list that are in range, and so many after the last of them
abbrev pub readings_given : List ℕ → ℕ → ℕ → List ℕ
readings_given readings last count =
    filter (λ reading. nat_lt reading READING_LIMIT) readings ++ readings_after last count
