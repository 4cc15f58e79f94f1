-- What a link gave, as a text: a capture, and a line `end` behind it where the link has ended.
use Rattle.std.specs.Prelude.{ℕ, ◌+◌, ◌-◌, ◌^◌, min, Bool, not, List, length, Option, Some, None}
use Rattle.std.specs.Prelude.{option_map, Result, Ok, Err, codes, bytes_eq}
use Rattle.std.specs.List.{before_first, after_first, list_any, position_from}
use Rattle.std.specs.Str.Lines.{lines}
use Rattle.plain_text.specs.Lines.{is_skipped}
use Rattle.capture_text.specs.Captures.{octets_from}

abbrev pub is_end_line : List ℕ → Bool
is_end_line line = bytes_eq line (codes "end")

-- the number of the first line that isn't skipped, where that of the first of all is this; the
-- count stands still at its end
abbrev pub line_told : ℕ → List (List ℕ) → Option ℕ
line_told number lines =
    option_map (λ line. min line (2 ^ 64 - 1))
    (position_from (λ line. not (is_skipped line)) number lines)

-- the octets of a link that has ended or not, unless one of their lines is bad or, behind them, the
-- line with this number
abbrev pub given_by : Bool → Option ℕ → Result (List ℕ) ℕ → Result (List ℕ × Bool) ℕ
given_by ended number (Err line) = Err line
given_by ended None (Ok octets) = Ok (octets, ended)
given_by ended (Some number) (Ok octets) = Err number

-- The octets of the lines in front of the first `end`, and whether there is one; or the number of
-- the first bad line. Behind `end` every line is bad that isn't skipped.
abbrev pub given_of : List (List ℕ) → Result (List ℕ × Bool) ℕ
given_of lines =
    given_by (list_any is_end_line lines)
    (line_told (length (before_first is_end_line lines) + 2) (after_first is_end_line lines))
    (octets_from 1 (before_first is_end_line lines))

-- the octets that a link gave, and whether it has ended, or the number of the first bad line
abbrev pub given_in : List ℕ → Result (List ℕ × Bool) ℕ
given_in text = given_of (lines text)
