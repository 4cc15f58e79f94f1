-- Octets that are held of a line that isn't ended yet.
use Rattle.std.specs.Prelude.{◌≡◌, ℕ, ◌<◌, ◌==◌, false, List, ◌∷◌, length, All}

-- no octet is an LF
abbrev pub HasNoEnd : List ℕ → Type 0
HasNoEnd octets = All (λ octet. (octet == 10) ≡ false) octets

-- the first of some lines is longer than this
abbrev pub IsLongFirst : ℕ → List (List ℕ) → Type 0
IsLongFirst most found = (line : List ℕ) × (others : List (List ℕ))
    × (found ≡ line ∷ others) × (most < length line)
