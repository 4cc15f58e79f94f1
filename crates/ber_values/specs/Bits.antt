-- Bit strings: a number of bits, and the octets that hold them, the first bit highest.
use Rattle.std.specs.Prelude.{◌≡◌, ℕ, ◌+◌, ◌-◌, ◌*◌, ◌/◌, ◌%◌, ◌^◌, nat_lt, List, length}
use Rattle.std.specs.Prelude.{slice_index, IsTrue}
use Rattle.std.specs.List.{list_all}

-- how many bits, and the octets that hold them
pub record Bits : Type 0 where
  pub count : ℕ
  pub octets : List ℕ

-- the bits fill their octets but for the end of the last one, which is zero
pub record IsBits (bits : Bits) : Type 0 where
  pub fitting : length bits.octets ≡ (bits.count + 7) / 8
  pub in_octets : IsTrue (list_all (λ octet. nat_lt octet 256) bits.octets)
  pub padded : slice_index bits.octets (length bits.octets - 1) % 2 ^
      (8 * length bits.octets - bits.count) ≡ 0
