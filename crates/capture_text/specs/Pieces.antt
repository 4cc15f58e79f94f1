-- The octets of a capture, one piece after another.
use Rattle.std.specs.Prelude.{◌≡◌, ℕ, ◌-◌, ◌^◌, min, false, List, [], ◌++◌, Option, is_some, true}
use Rattle.std.specs.Prelude.{unwrap_or, option_map}
use Rattle.std.specs.List.{list_any, position_from}
use Rattle.std.specs.Result.{result_ok}
use Rattle.std.specs.Str.Lines.{lines}
use Rattle.hex.specs.Hex.{decode_of}
use Rattle.capture_text.specs.Captures.{is_bad, joined}

-- the octets of pairs of hexadecimal digits
abbrev pub pairs_octets : List ℕ → List ℕ
pairs_octets digits = unwrap_or (result_ok (decode_of digits)) []

abbrev pub ArePairs : List ℕ → Type 0
ArePairs digits = is_some (result_ok (decode_of digits)) ≡ true

-- no line of a text is bad
abbrev pub HasNoBadLine : List ℕ → Type 0
HasNoBadLine text = list_any is_bad (lines text) ≡ false

-- the number of the first bad line; it stands still at the end of the count
abbrev pub bad_line_from : ℕ → List (List ℕ) → Option ℕ
bad_line_from number lines = option_map (λ n. min n (2 ^ 64 - 1))
    (position_from is_bad number lines)

-- the octets of what is left of a line, and of the lines behind it
abbrev pub octets_left : List ℕ → List ℕ → List ℕ
octets_left digits text = pairs_octets digits ++ joined (lines text)
