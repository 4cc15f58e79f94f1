-- Values that items spell one after another, each by what came before it.
use Rattle.std.specs.Prelude.{List, [], ◌∷◌, ◌++◌}

-- behind these values the items spell those, in turn
abbrev pub SpellInTurn : {X T : Type 0} → (List T → T → X → Type 0) → List T → List T → List X
    → Type 0
SpellInTurn S before [] [] = Unit {0}
SpellInTurn S before [] (m ∷ ms) = ⊥
SpellInTurn S before (t ∷ ts) [] = ⊥
SpellInTurn S before (t ∷ ts) (m ∷ ms) = S before t m × SpellInTurn S (before ++ t ∷ []) ts ms
