-- Octets as hexadecimal text.
use Rattle.std.specs.Prelude.{ℕ, ◌+◌, ◌/◌, ◌%◌, nat_lt}
use Rattle.std.specs.Prelude.{if◌then◌else◌, List, [], ◌∷◌, flat_map}

-- the lower-case digit for a number below 16
abbrev pub hex_digit : ℕ → ℕ
hex_digit n = if nat_lt n 10 then 48 + n else 87 + n

-- an octet as two digits, the higher four bits first
abbrev pub hex_pair : ℕ → List ℕ
hex_pair octet = hex_digit (octet / 16) ∷ hex_digit (octet % 16) ∷ []

-- octets as hexadecimal text
abbrev pub hex_text : List ℕ → List ℕ
hex_text octets = flat_map hex_pair octets
