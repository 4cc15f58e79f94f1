-- How a text is cut at its line `end`.
use Rattle.std.specs.Prelude.{◌≡◌, ◌<◌, ◌≤◌, ◌+◌, ◌++◌, ℕ, Bool, List, [], ◌∷◌, take, drop, length}
use Rattle.std.specs.List.{before_first, after_first, list_any}
use Rattle.std.specs.Str.Lines.{lines}
use Rattle.tase_verify.specs.LinkText.{is_end_line, line_told}

-- a text of whole lines, these: whatever stands behind it begins a line
abbrev pub AreWhole : List ℕ → List (List ℕ) → Type 0
AreWhole text whole = (more : List ℕ) → lines (text ++ more) ≡ whole ++ lines more

-- so many octets of a text are its first line and, unless they are all, its LF
pub record TakesFirstLine (text : List ℕ) (size : ℕ) : Type 0 where
  pub within : size ≤ length text
  pub some : 0 < length text → 0 < size
  pub rest : (line : List ℕ) (more : List (List ℕ)) → lines text ≡ line ∷ more
      → lines (drop size text) ≡ more
  pub whole : (line : List ℕ) (more : List (List ℕ)) → lines text ≡ line ∷ more
      → size < length text → AreWhole (take size text) (line ∷ [])

-- a text, cut at its first line `end`: what stands in front of that, or all, where there is none;
-- what stands behind it, whose first line has this number; and whether there is one
pub record IsCutAtEnd (text front behind : List ℕ) (ended : Bool) (number : ℕ) : Type 0 where
  pub before : lines front ≡ before_first is_end_line (lines text)
  pub there : ended ≡ list_any is_end_line (lines text)
  pub told : line_told number (lines behind)
      ≡ line_told (length (before_first is_end_line (lines text)) + 2)
      (after_first is_end_line (lines text))
