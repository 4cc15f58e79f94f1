-- What an adder may answer.
use Rattle.std.specs.Prelude.{◌≡◌, ℕ, ◌+◌, ◌<◌, ◌≤◌, List, map, sum, Result, Ok, Err}
use Rattle.floor_tests.specs.declared.adder.Amount.{Amount}
use Rattle.floor_tests.specs.declared.adder.Refusal.{Refusal}
use Rattle.floor_tests.specs.declared.adder.Refusal.TheVariants.{Over, Memory}

-- an adder: its limit, and the amounts that were added, each with who asked
pub record Ledger : Type 0 where
  pub limit : ℕ
  pub log : List (ℕ × Amount)

-- the sum of the amounts
abbrev pub total : List (ℕ × Amount) → ℕ
total log = sum (map (λ e. e.1.value) log)

-- The answer is the sum before, where the limit has room for the amount. `Over` comes where it has
-- none, and `Memory` is free.
abbrev pub IsRight : ℕ → List (ℕ × Amount) → ℕ → Amount → Result ℕ Refusal → Type 0
IsRight limit log who event (Ok answer) = (answer ≡ total log) × (total log + event.value ≤ limit)
IsRight limit log who event (Err (Over s l)) =
    (s ≡ total log) × (l ≡ limit) × (limit < total log + event.value)
IsRight limit log who event (Err Memory) = Unit {0}
