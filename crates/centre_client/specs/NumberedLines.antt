-- The lines of a script that aren't skipped, each with its number.
use Rattle.std.specs.Prelude.{ℕ, ◌+◌, ◌-◌, ◌^◌, min, if◌then◌else◌, List, [], ◌∷◌}
use Rattle.std.specs.Str.Lines.{lines}
use Rattle.plain_text.specs.Lines.{is_skipped}

pub record NumberedLine : Type 0 where
  pub number : ℕ
  pub text : List ℕ

-- the number of the line after the one with this number; the count stands still at its end
abbrev pub number_after : ℕ → ℕ
number_after number = min (number + 1) (2 ^ 64 - 1)

-- those of these lines that aren't skipped, where the first of all has this number
abbrev pub numbered_from : ℕ → List (List ℕ) → List NumberedLine
numbered_from number [] = []
numbered_from number (line ∷ more) =
    if is_skipped line then numbered_from (number_after number) more
    else record { number = number; text = line } ∷ numbered_from (number_after number) more

-- the lines of a script that say something; lines count from 1
abbrev pub numbered_lines : List ℕ → List NumberedLine
numbered_lines text = numbered_from 1 (lines text)
