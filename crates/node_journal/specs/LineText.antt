-- Lines that stand one behind another in a text.
use Rattle.std.specs.Prelude.{◌≡◌, ℕ, ◌-◌, ◌≤◌, List, [], ◌∷◌, take, drop}

-- the lines of a text that end at these places, the first of which begins at a place
abbrev pub lines_from : ℕ → List ℕ → List ℕ → List (List ℕ)
lines_from start text [] = []
lines_from start text (end ∷ ends) = take (end - start) (drop start text) ∷ lines_from end text ends

-- none of these places lies before the one in front of it, the first not before a start; and the
-- last is the end of all
abbrev pub Rise : ℕ → List ℕ → ℕ → Type 0
Rise start [] last = start ≡ last
Rise start (end ∷ ends) last = (start ≤ end) × Rise end ends last
