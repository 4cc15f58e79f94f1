-- The words of a line, and parts between separators.
use Rattle.std.specs.Prelude.{option_and_then, option_map}
use Rattle.std.specs.Prelude.{ℕ, Bool, true, false, not, ◌&&◌, ◌==◌, List, [], ◌∷◌, length, filter}
use Rattle.std.specs.Prelude.{slice_index, ◌-◌, Option, Some, None, if◌then◌else◌}
use Rattle.std.specs.List.{slice_split, list_any}

-- not empty
abbrev pub is_word : List ℕ → Bool
is_word [] = false
is_word (first ∷ more) = true

-- the parts between spaces that are not empty
abbrev pub words : List ℕ → List (List ℕ)
words line = filter is_word (slice_split (λ octet. octet == 32) line)

-- a line has no tab, and neither begins nor ends with a space
abbrev pub is_spaced : List ℕ → Bool
is_spaced line =
    not (list_any (λ octet. octet == 9) line) && not (slice_index line 0 == 32)
    && not (slice_index line (length line - 1) == 32)

-- the words of a line that is well spaced
abbrev pub words_in : List ℕ → Option (List (List ℕ))
words_in line = if is_spaced line then Some (words line) else None

-- the parts of what follows a separator; none where no separator stood
abbrev pub parts_after : ℕ → Option (List ℕ) → List (List ℕ)
parts_after separator None = []
parts_after separator (Some rest) = slice_split (λ octet. octet == separator) rest

-- what each part stands for, where every part stands for something
abbrev pub each_in : {A : Type 0} → (List ℕ → Option A) → List (List ℕ) → Option (List A)
each_in read [] = Some []
each_in read (part ∷ parts) =
    option_and_then (λ item. option_map (λ items. item ∷ items) (each_in read parts)) (read part)
