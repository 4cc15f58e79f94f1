-- Where words break that are not such as they should be.
use Rattle.std.specs.Prelude.{ℕ, suc, ◌<◌, ◌≤◌, List, ◌++◌, length}
use Rattle.std.proofs.Common.{take}

-- words with which such as have the property begin
abbrev pub BeginsWords : (List (List ℕ) → Type 0) → List (List ℕ) → Type 0
BeginsWords P words = (more : List (List ℕ)) × P (words ++ more)

-- words without the property, of which so many are the most with which words begin that have it:
-- with the next word, where there is one, none begin
pub record Breaks (P : List (List ℕ) → Type 0) (words : List (List ℕ)) (count : ℕ) : Type 0 where
  pub within : count ≤ length words
  pub begins : BeginsWords P (take count words)
  pub breaks : count < length words → BeginsWords P (take (suc count) words) → ⊥
  pub unspelled : P words → ⊥
