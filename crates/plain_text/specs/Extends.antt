-- What is left of a text that was being written when memory ran out.
use Rattle.std.specs.Prelude.{◌≡◌, ℕ, List, length, take}

-- the new octets begin with the old ones
abbrev pub Extends : List ℕ → List ℕ → Type 0
Extends old new = take (length old) new ≡ old
