-- Captures: octets written down as lines of hexadecimal digits.
use Rattle.std.specs.Prelude.{ℕ, ◌-◌, ◌^◌, min, Bool, if◌then◌else◌, List, [], flat_map}
use Rattle.std.specs.Prelude.{Option, Some, None, is_none, unwrap_or, Result, Ok, Err}
use Rattle.std.specs.List.{position_from}
use Rattle.std.specs.Result.{result_ok}
use Rattle.std.specs.Str.Lines.{lines}
use Rattle.plain_text.specs.Lines.{is_skipped}
use Rattle.hex.specs.Hex.{decode_of}

-- the octets of a line of pairs of hexadecimal digits in either case; a skipped line has no octets,
-- and every other line is bad
abbrev pub line_octets : List ℕ → Option (List ℕ)
line_octets line = if is_skipped line then Some [] else result_ok (decode_of line)

abbrev pub is_bad : List ℕ → Bool
is_bad line = is_none (line_octets line)

-- the octets of lines, one after another
abbrev pub joined : List (List ℕ) → List ℕ
joined lines = flat_map (λ line. unwrap_or (line_octets line) []) lines

-- these octets, unless the line with a number is bad; the count stands still at its end
abbrev pub unless_bad : Option ℕ → List ℕ → Result (List ℕ) ℕ
unless_bad None octets = Ok octets
unless_bad (Some number) octets = Err (min number (2 ^ 64 - 1))

-- the octets of lines, of which the first has this number, or the number of the first bad one
abbrev pub octets_from : ℕ → List (List ℕ) → Result (List ℕ) ℕ
octets_from number lines = unless_bad (position_from is_bad number lines) (joined lines)

-- the octets of a capture, or the number of its first bad line; lines count from 1
abbrev pub capture_in : List ℕ → Result (List ℕ) ℕ
capture_in text = octets_from 1 (lines text)
