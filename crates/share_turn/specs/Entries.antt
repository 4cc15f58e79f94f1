-- Entries of a history, each with the number of the seat that made it.
use Rattle.std.specs.Prelude.{◌≡◌, ℕ, ◌==◌, ◌⊎◌, List, [], ◌∷◌, ◌++◌, map, filter}
use Rattle.std.specs.Prelude.{if◌then◌else◌, Option, Some, None}
use mathlib.Core.List.{IsPrefix}

-- P holds of each item
abbrev pub Each : {A : Type 0} → (A → Type 0) → List A → Type 0
Each P [] = Unit {0}
Each P (x ∷ xs) = P x × Each P xs

module _ {E : Type 0} where
  -- the events under the number, in order
  abbrev pub own : ℕ → List (ℕ × E) → List E
  own n log = map (λ e. e.1) (filter (λ e. e.0 == n) log)

  -- the event of an entry, where it is under the number
  abbrev pub event_under : ℕ → ℕ × E → Option E
  event_under n e = if e.0 == n then Some e.1 else None

  -- the front begins the log, and no entry behind it is under the number
  abbrev pub Behind : List (ℕ × E) → (ℕ × List (ℕ × E)) → Type 0
  Behind log claim = (rest : List (ℕ × E)) × (claim.1 ++ rest ≡ log) × (own claim.0 rest ≡ [])

  -- the log begins with the front, and the number's own list in it is what it was in the front
  abbrev pub Keeps : List (ℕ × E) → (ℕ × List (ℕ × E)) → Type 0
  Keeps log claim = IsPrefix claim.1 log × (own claim.0 log ≡ own claim.0 claim.1)

  -- one of the claims is to the number
  abbrev pub Claims : List (ℕ × List (ℕ × E)) → ℕ → Type 0
  Claims [] n = ⊥
  Claims (p ∷ ps) n = (p.0 ≡ n) ⊎ Claims ps n

  -- no two claims are to one number
  abbrev pub AllDiffer : List (ℕ × List (ℕ × E)) → Type 0
  AllDiffer [] = Unit {0}
  AllDiffer (p ∷ ps) = (Claims ps p.0 → ⊥) × AllDiffer ps
