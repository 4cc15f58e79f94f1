-- Lines in parts.
use Rattle.std.proofs.Common.{◌≡◌, ◌++◌, ◌∷◌, [], List, ℕ, append_assoc}
use Rattle.tase_tool.specs.Lines.{named_line}

-- a line is a front part, and a line behind it
pub in_two : (front first next last : List ℕ)
    → named_line front (first ++ 32 ∷ [] ++ next ++ 32 ∷ [] ++ last)
    ≡ (front ++ 32 ∷ [] ++ first) ++ named_line [] (next ++ 32 ∷ [] ++ last)
in_two front first next last = simp append_assoc
