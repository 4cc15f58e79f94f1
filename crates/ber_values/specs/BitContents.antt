-- Bit strings in contents octets: the number of unused bits at the end, and the octets.
use Rattle.std.specs.Prelude.{◌≡◌, ℕ, ◌-◌, ◌*◌, ◌/◌, ◌^◌, ◌<◌, ◌≤◌, Bool, ◌&&◌, ◌||◌, not, List, []}
use Rattle.std.specs.Prelude.{◌∷◌, length, drop, ◌⊎◌, Result, nat_lt, slice_index, slice_set, ◌==◌}
use Rattle.ber_values.specs.declared.fault.BerFault.{BerFault}
use Rattle.ber_values.specs.declared.head.Head.{Head}
use Rattle.ber_values.specs.Bits.{Bits}
use Rattle.ber_values.specs.Contents.{ContentsFault, contents_in}

-- the octets with their last unused bits zero
abbrev pub with_zeros : ℕ → List ℕ → List ℕ
with_zeros unused octets =
    slice_set octets (length octets - 1)
    (slice_index octets (length octets - 1) / 2 ^ unused * 2 ^ unused)

-- the bits that octets hold but for the last unused ones
abbrev pub bits_with : ℕ → List ℕ → Bits
bits_with unused octets =
    record { count = 8 * length octets - unused; octets = with_zeros unused octets }

-- 0 to 7 unused bits, none where no octet follows; they may be set, and are read as zero
abbrev pub SpellsBits : Bits → List ℕ → Type 0
SpellsBits bits [] = ⊥
SpellsBits bits (unused ∷ octets) =
    (unused < 8) × (octets ≡ [] → unused ≡ 0) × (bits ≡ bits_with unused octets)

-- more unused bits than an octet has before the last, or than there are
abbrev pub BreaksBits : List ℕ → Type 0
BreaksBits [] = ⊥
BreaksBits (unused ∷ octets) = (8 ≤ unused) ⊎ ((octets ≡ []) × (0 < unused))

abbrev pub BitsFault : Head → List ℕ → BerFault → Type 0
BitsFault head octets = ContentsFault (0 < length octets) (BreaksBits octets) head

abbrev pub keeps_bits : ℕ → List ℕ → Bool
keeps_bits unused octets = nat_lt unused 8 && (unused == 0 || not (length octets == 0))

unfoldable pub bits_in : Head → List ℕ → Result Bits BerFault
bits_in head octets =
    contents_in (nat_lt 0 (length octets)) (keeps_bits (slice_index octets 0) (drop 1 octets))
    (bits_with (slice_index octets 0) (drop 1 octets)) head
