-- Lengths of texts, each of which is at most 2^62.
use Rattle.std.specs.Prelude.{ℕ, min}
use Rattle.plain_text.specs.declared.lengths.TheConstants.{MOST_LEN}

-- a length, or the most that one is said to be
abbrev pub capped_len : ℕ → ℕ
capped_len n = min n MOST_LEN
