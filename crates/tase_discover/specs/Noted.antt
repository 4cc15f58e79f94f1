-- Octets that were noted in a set.
use Rattle.std.specs.Prelude.{ℕ, List, Bool, Vec, bytes_eq}
use Rattle.std.specs.Global.{Global}
use Rattle.std.specs.HashSet.{HashSet, contains_by}

-- whether octets were noted
abbrev pub is_noted : {S : Type 0} → HashSet (Vec ℕ Global) S → List ℕ → Bool
is_noted noted octets = contains_by (λ key. bytes_eq octets key.items) noted
