-- The written form of a value: the shortest length, the shortest integer, true as 255, unused bits
-- zero.
use Rattle.std.specs.Prelude.{ℕ, zero, suc, ◌+◌, ◌-◌, ◌*◌, ◌/◌, ◌%◌, ◌^◌, Bool, List, [], ◌∷◌, ◌++◌}
use Rattle.std.specs.Prelude.{length, ℤ, pos, negsuc, nat_lt, if◌then◌else◌}
use Rattle.std.specs.Int.{w64, cast_unsigned}
use Rattle.ber_values.specs.declared.fault.Span.{Span}
use Rattle.ber_values.specs.Bits.{Bits}

-- the last octets of a number, the highest first
abbrev pub octets_of : ℕ → ℕ → List ℕ
octets_of zero number = []
octets_of (suc count) number = octets_of count (number / 256) ++ number % 256 ∷ []

-- how many octets a length needs
abbrev pub length_size : ℕ → ℕ
length_size n =
    if nat_lt n (2 ^ 8) then 1
    else (if nat_lt n (2 ^ 16) then 2 else (if nat_lt n (2 ^ 24) then 3 else 4))

-- the shortest length
unfoldable pub length_octets : ℕ → List ℕ
length_octets n =
    if nat_lt n 128 then n ∷ [] else (128 + length_size n) ∷ octets_of (length_size n) n

-- a tag of one octet, and a length
abbrev pub head_octets : ℕ → ℕ → List ℕ
head_octets tag size = tag ∷ length_octets size

-- an element of a tag of one octet
abbrev pub written : ℕ → List ℕ → List ℕ
written tag contents = head_octets tag (length contents) ++ contents

-- how many octets a number needs, with a bit to spare for the sign
abbrev pub number_size : ℕ → ℕ
number_size n =
    if nat_lt n (2 ^ 7) then 1
    else (if nat_lt n (2 ^ 15) then 2
    else (if nat_lt n (2 ^ 23) then 3
    else (if nat_lt n (2 ^ 31) then 4
    else (if nat_lt n (2 ^ 39) then 5
    else (if nat_lt n (2 ^ 47) then 6
    else (if nat_lt n (2 ^ 55) then 7 else 8))))))

-- a number below zero needs as many as its complement
abbrev pub integer_size : ℤ → ℕ
integer_size (pos n) = number_size n
integer_size (negsuc n) = number_size n

-- as few of the last octets of its 64 bits as spell an integer
unfoldable pub integer_octets : ℤ → List ℕ
integer_octets value = octets_of (integer_size value) (cast_unsigned w64 value)

abbrev pub boolean_octets : Bool → List ℕ
boolean_octets value = (if value then 255 else 0) ∷ []

-- the number of unused bits, and the octets
abbrev pub bits_octets : Bits → List ℕ
bits_octets bits = (8 * length bits.octets - bits.count) ∷ bits.octets

-- where a body stands at the end of octets that end at a place
abbrev pub last_span : ℕ → List ℕ → Span
last_span end body = record { from = end - length body; to = end }
