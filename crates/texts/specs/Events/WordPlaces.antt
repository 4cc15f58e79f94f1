-- The places of a text at which its words begin, and those of blanks that may not stand there.
use Rattle.std.specs.Prelude.{ℕ, ◌+◌, ◌-◌, Bool, not, ◌&&◌, ◌||◌, ◌==◌, List, length, filter}
use Rattle.std.specs.Prelude.{slice_index, slice_index_or}
use Rattle.std.specs.List.{range_with_len}

-- no space stands here, and the text begins here or a space stands before
abbrev pub is_word_start : List ℕ → ℕ → Bool
is_word_start text place =
    not (slice_index text place == 32)
    && ((place == 0) || (slice_index text (place - 1) == 32))

-- a tab, or a space with which the text begins or ends
abbrev pub is_stray_blank : List ℕ → ℕ → Bool
is_stray_blank text place =
    (slice_index text place == 9)
    || ((slice_index text place == 32) && ((place == 0) || (place + 1 == length text)))

-- of the places of a text that pass a test, counted from 0, the one of this number, or the text's
-- length
abbrev pub place_by : (ℕ → Bool) → List ℕ → ℕ → ℕ
place_by test text number =
    slice_index_or (filter test (range_with_len 0 (length text))) number (length text)

-- the place of the word of this number, or the text's length
abbrev pub word_place : List ℕ → ℕ → ℕ
word_place text number = place_by (is_word_start text) text number

-- the place of the first blank that may not stand there
abbrev pub blank_place : List ℕ → ℕ
blank_place text = place_by (is_stray_blank text) text 0
