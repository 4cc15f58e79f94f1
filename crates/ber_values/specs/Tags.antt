-- Tags and lengths: how each is spelled, and the first fault of octets that don't begin with one.
use Rattle.std.specs.Prelude.{◌≡◌, ◌≢◌, ℕ, ◌+◌, ◌-◌, ◌*◌, ◌/◌, ◌%◌, ◌<◌, ◌≤◌, Bool, true, false}
use Rattle.std.specs.Prelude.{not, ◌&&◌, List, [], ◌∷◌, length, take, drop, ◌⊎◌, Result, Ok, Err}
use Rattle.std.specs.Prelude.{nat_lt, nat_le, ◌==◌, if◌then◌else◌}
use Rattle.ber_values.specs.declared.fault.BerFault.{BerFault}
use Rattle.ber_values.specs.declared.fault.Why.TheVariants as whys
use Rattle.ber_values.specs.declared.tag.Tag.{Tag}
use Rattle.ber_values.specs.Faults.{fault_at}
use Rattle.ber_values.specs.Octets.{number_of}
use Rattle.ber_values.specs.Reading.{Taken}

-- class and form are the upper three bits of the first octet
abbrev pub tag_with : ℕ → ℕ → Bool → Tag
tag_with first number long_form =
    record {
      class = first / 64;
      constructed = first / 32 % 2 == 1;
      number = number;
      long_form =
          long_form;
    }

-- one octet; or, where its low five bits are all ones, one or two further octets of seven bits, all
-- but the last with bit 8 set
abbrev pub SpellsTag : Tag → List ℕ → Type 0
SpellsTag tag (first ∷ []) = (first % 32 ≢ 31) × (tag ≡ tag_with first (first % 32) false)
SpellsTag tag (first ∷ low ∷ []) = (first % 32 ≡ 31) × (low < 128) × (tag ≡ tag_with first low true)
SpellsTag tag (first ∷ high ∷ low ∷ []) =
    (first % 32 ≡ 31) × (128 ≤ high) × (low < 128)
    × (tag ≡ tag_with first ((high - 128) * 128 + low) true)
SpellsTag tag _ = ⊥

-- the octets end before their tag does
abbrev pub IsTagFront : List ℕ → Type 0
IsTagFront [] = Unit {0}
IsTagFront (first ∷ []) = first % 32 ≡ 31
IsTagFront (first ∷ high ∷ []) = (first % 32 ≡ 31) × (128 ≤ high)
IsTagFront _ = ⊥

-- the tag asks for a third further octet
abbrev pub IsTagTooLong : List ℕ → Type 0
IsTagTooLong (first ∷ high ∷ low ∷ _) = (first % 32 ≡ 31) × (128 ≤ high) × (128 ≤ low)
IsTagTooLong _ = ⊥

-- the first fault of octets that don't begin with a tag
abbrev pub TagFault : ℕ → List ℕ → BerFault → Type 0
TagFault at octets f =
    (IsTagFront octets × (f ≡ fault_at (at + length octets) whys.Short))
    ⊎ (IsTagTooLong octets × (f ≡ fault_at at whys.Tag))

-- one octet below 128; or 129 to 132 and then one to four octets, more than needed allowed
abbrev pub SpellsLength : ℕ → List ℕ → Type 0
SpellsLength n [] = ⊥
SpellsLength n (first ∷ more) =
    ((first < 128) × (more ≡ []) × (n ≡ first))
    ⊎ ((0 < length more) × (length more ≤ 4) × (first ≡ 128 + length more)
    × (n ≡ number_of more))

-- the octets end before their length does
abbrev pub IsLengthFront : List ℕ → Type 0
IsLengthFront [] = Unit {0}
IsLengthFront (first ∷ more) = (first ≤ 132) × (128 + length more < first)

-- a first octet that begins no allowed form
abbrev pub IsRefusedLength : List ℕ → Type 0
IsRefusedLength [] = ⊥
IsRefusedLength (first ∷ more) = (first ≡ 128) ⊎ (132 < first)

-- the first fault of octets that don't begin with a length
abbrev pub LengthFault : ℕ → List ℕ → BerFault → Type 0
LengthFault at octets f =
    (IsLengthFront octets × (f ≡ fault_at (at + length octets) whys.Short))
    ⊎ (IsRefusedLength octets × (f ≡ fault_at at whys.Length))

-- the last octet of a tag of three
abbrev pub third_tag_octet_in : ℕ → ℕ → ℕ → List ℕ → Result (Taken Tag) BerFault
third_tag_octet_in at first high [] = Err (fault_at (at + 2) whys.Short)
third_tag_octet_in at first high (low ∷ rest) =
    if nat_lt low 128
    then Ok (record
    { value = tag_with first ((high - 128) * 128 + low) true; next = at + 3; rest = rest })
    else Err (fault_at at whys.Tag)

-- the further octets of a tag
abbrev pub second_tag_octet_in : ℕ → ℕ → List ℕ → Result (Taken Tag) BerFault
second_tag_octet_in at first [] = Err (fault_at (at + 1) whys.Short)
second_tag_octet_in at first (low ∷ rest) =
    if nat_lt low 128
    then Ok (record { value = tag_with first low true; next = at + 2; rest = rest })
    else third_tag_octet_in at first low rest

-- reading a tag from the left
unfoldable pub tag_in : ℕ → List ℕ → Result (Taken Tag) BerFault
tag_in at [] = Err (fault_at at whys.Short)
tag_in at (first ∷ rest) =
    if first % 32 == 31 then second_tag_octet_in at first rest
    else Ok (record { value = tag_with first (first % 32) false; next = at + 1; rest = rest })

-- the further octets of a length
abbrev pub more_length_in : ℕ → ℕ → List ℕ → Result (Taken ℕ) BerFault
more_length_in at count rest =
    if nat_lt (length rest) count then Err (fault_at (at + 1 + length rest) whys.Short)
    else Ok (record
    { value = number_of (take count rest); next = at + 1 + count; rest = drop count rest })

-- reading a length from the left
unfoldable pub length_in : ℕ → List ℕ → Result (Taken ℕ) BerFault
length_in at [] = Err (fault_at at whys.Short)
length_in at (first ∷ rest) =
    if nat_lt first 128 then Ok (record { value = first; next = at + 1; rest = rest })
    else (if not (first == 128) && nat_le first 132 then more_length_in at (first - 128) rest
    else Err (fault_at at whys.Length))
