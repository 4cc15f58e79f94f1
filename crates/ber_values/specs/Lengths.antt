-- Lengths of written forms, each of which is at most what a length of four octets can say.
use Rattle.std.specs.Prelude.{ℕ, ◌+◌, min, length}
use Rattle.ber_values.specs.declared.lengths.TheConstants.{MOST_LENGTH}
use Rattle.ber_values.specs.Writing.{length_octets}

-- a length, or the most that one is said to be
abbrev pub capped : ℕ → ℕ
capped n = min n MOST_LENGTH

-- how many octets an element of so many contents octets has, with a tag of one octet
unfoldable pub part_size : ℕ → ℕ
part_size n = 1 + length (length_octets n) + n
