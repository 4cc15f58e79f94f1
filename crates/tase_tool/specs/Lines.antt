-- Lines that are written without memory.
use Rattle.std.specs.Prelude.{ℕ, List, [], ◌∷◌, ◌++◌, codes, decimal}

-- words behind a name, as a line
abbrev pub named_line : List ℕ → List ℕ → List ℕ
named_line name words = name ++ 32 ∷ [] ++ words ++ 10 ∷ []

-- a number behind a text, as a line
abbrev pub number_line : List ℕ → ℕ → List ℕ
number_line name number = name ++ decimal number ++ 10 ∷ []

-- `stray N`
abbrev pub stray_line : ℕ → List ℕ
stray_line number = number_line (codes "stray ") number
