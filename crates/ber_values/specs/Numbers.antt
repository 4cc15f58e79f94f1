-- Integers in contents octets.
use Rattle.std.specs.Prelude.{◌≡◌, ℕ, ◌*◌, ◌^◌, ◌<◌, Bool, true, false, List, length, ℤ, pos}
use Rattle.std.specs.Prelude.{negsuc, ◌-ℤ◌, ◌<ℤ◌, ◌≤ℤ◌, ◌⊎◌, Result, nat_lt, slice_index}
use Rattle.std.specs.Prelude.{if◌then◌else◌}
use Rattle.ber_values.specs.declared.fault.BerFault.{BerFault}
use Rattle.ber_values.specs.declared.head.Head.{Head}
use Rattle.ber_values.specs.Octets.{number_of}
use Rattle.ber_values.specs.Contents.{HasLength, has_length, ContentsFault, contents_in}

-- the number that octets are in two's complement: below zero where the first bit is set
abbrev pub twos_complement : List ℕ → ℤ
twos_complement octets =
    if nat_lt (slice_index octets 0) 128 then pos (number_of octets)
    else pos (number_of octets) -ℤ pos (2 ^ (8 * length octets))

-- an integer: one to eight octets
abbrev pub SpellsInteger : ℤ → List ℕ → Type 0
SpellsInteger value octets = HasLength 1 8 octets × (value ≡ twos_complement octets)

abbrev pub IntegerFault : Head → List ℕ → BerFault → Type 0
IntegerFault head octets = ContentsFault (HasLength 1 8 octets) ⊥ head

unfoldable pub integer_in : Head → List ℕ → Result ℤ BerFault
integer_in head octets = contents_in (has_length 1 8 octets) true (twos_complement octets) head

-- an integer from 0 to 2^32 - 1
abbrev pub SpellsUnsigned : ℕ → List ℕ → Type 0
SpellsUnsigned value octets = SpellsInteger (pos value) octets × (value < 2 ^ 32)

abbrev pub UnsignedFault : Head → List ℕ → BerFault → Type 0
UnsignedFault head octets =
    ContentsFault (HasLength 1 8 octets)
    ((twos_complement octets <ℤ pos 0) ⊎ (pos (2 ^ 32) ≤ℤ twos_complement octets)) head

-- whether an integer is from 0 up to a limit, and which number it is then
abbrev pub is_number_below : ℕ → ℤ → Bool
is_number_below limit (pos n) = nat_lt n limit
is_number_below limit (negsuc n) = false

abbrev pub unsigned_of : ℤ → ℕ
unsigned_of (pos n) = n
unsigned_of (negsuc n) = 0

unfoldable pub unsigned_in : Head → List ℕ → Result ℕ BerFault
unsigned_in head octets =
    contents_in (has_length 1 8 octets) (is_number_below (2 ^ 32) (twos_complement octets))
    (unsigned_of (twos_complement octets)) head
