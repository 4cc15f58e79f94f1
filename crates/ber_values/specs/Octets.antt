-- Octets, and the numbers that they are, the highest octet first.
use Rattle.std.specs.Prelude.{ℕ, ◌+◌, ◌*◌, ◌<◌, List, slice_index, fold}

-- numbers below 256
abbrev pub IsOctets : List ℕ → Type 0
IsOctets octets = (i : ℕ) → slice_index octets i < 256

-- the number that octets are
abbrev pub number_of : List ℕ → ℕ
number_of octets = fold (λ number octet. number * 256 + octet) 0 octets
