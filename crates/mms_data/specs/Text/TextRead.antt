-- Data in a text, and where a text breaks that is no text of a datum.
use Rattle.std.specs.Prelude.{◌≡◌, ◌≢◌, ◌⊎◌, ℕ, ◌+◌, ◌≤◌, ◌<◌, ◌^◌, Bool, false, ◌==◌, List, []}
use Rattle.std.specs.Prelude.{◌∷◌, ◌++◌, length, IsTrue}
use Rattle.std.proofs.Common.{take}
use Rattle.std.specs.List.{list_all}
use Rattle.std.specs.Int.{w64}
use Rattle.std.specs.Int.RustNames.{FitsSigned}
use Rattle.plain_text.specs.Escaped.{is_octet}
use Rattle.ber_values.specs.Bits.{IsBits}
use Rattle.ber_values.specs.Reading.{IsOne}
use Rattle.ber_values.specs.Visible.{IsVisible}
use Rattle.mms_data.specs.declared.data.octets.TheConstants.{MOST_DEPTH}
use Rattle.mms_data.specs.declared.text.data_text.Halt.{Halt}
use Rattle.mms_data.specs.declared.text.data_text.Halt.TheVariants as halts
use Rattle.mms_data.specs.Datum.{Datum, boolean, integer, unsigned, bits, real, octets, text}
use Rattle.mms_data.specs.Datum.{structure, array, Data, no_data, datum, depth, deepest}
use Rattle.mms_data.specs.Text.Texts.{data_text, members_text}
use Rattle.mms_data.specs.Text.WordValue.{is_mark}

-- numbers below 256
abbrev pub AreOctets : List ℕ → Type 0
AreOctets os = IsTrue (list_all is_octet os)

abbrev mutual
  -- each part is one that a text spells: integers of 64 bits, unsigned numbers below 2^63, bits in
  -- their octets, four octets of a real number, visible text
  pub IsTextual : Datum → Type 0
  IsTextual (boolean b) = Unit {0}
  IsTextual (integer z) = FitsSigned w64 z
  IsTextual (unsigned n) = n < 2 ^ 63
  IsTextual (bits b) = IsBits b × (b.count < 2 ^ 64)
  IsTextual (real o) = (length o ≡ 4) × AreOctets o
  IsTextual (octets o) = AreOctets o
  IsTextual (text o) = IsVisible o
  IsTextual (structure ds) = AreTextual ds
  IsTextual (array ds) = AreTextual ds

  -- each member is data that a text spells
  pub AreTextual : Data → Type 0
  AreTextual no_data = Unit {0}
  AreTextual (datum d ds) = IsTextual d × AreTextual ds

-- at most so many levels, and parts that a text spells
pub record IsTextWithin (n : ℕ) (d : Datum) : Type 0 where
  pub shallow : depth d ≤ n
  pub parts : IsTextual d

-- members of at most so many levels, and of parts that a text spells
pub record AreWithin (n : ℕ) (ds : Data) : Type 0 where
  pub shallow : deepest ds ≤ n
  pub parts : AreTextual ds

-- a datum that a text spells
abbrev pub HasText : Datum → Type 0
HasText d = IsTextWithin MOST_DEPTH d

-- octets that stand at the front of the text of a datum
pub record IsFront (front : List ℕ) : Type 0 where
  pub value : Datum
  pub lawful : HasText value
  pub more : List ℕ
  pub spelled : data_text value ≡ front ++ more

-- a text is that of no datum, and so many octets of it are its longest front part that stands at
-- the front of the text of one
pub record BreaksAt (os : List ℕ) (place : ℕ) : Type 0 where
  pub within : place ≤ length os
  pub begins : IsFront (take place os)
  pub longest : (n : ℕ) → n ≤ length os → IsFront (take n os) → n ≤ place
  pub unspelled : (d : Datum) → HasText d → os ≢ data_text d

-- a text spells exactly one datum and breaks nowhere, or spells none and breaks at exactly one
-- place
abbrev pub HasOneTextReading : List ℕ → Type 0
HasOneTextReading os =
    (IsOne Datum (λ d. HasText d × (os ≡ data_text d)) × ((place : ℕ) → BreaksAt os place → ⊥))
    ⊎ (((d : Datum) → HasText d → os ≢ data_text d) × IsOne ℕ (BreaksAt os))

-- a datum without members
abbrev pub IsLeaf : Datum → Type 0
IsLeaf (structure ds) = ⊥
IsLeaf (array ds) = ⊥
IsLeaf _ = Unit {0}

-- nothing, or a mark first
abbrev pub IsEnd : List ℕ → Type 0
IsEnd [] = Unit {0}
IsEnd (c ∷ more) = IsTrue (is_mark c)

-- a text begins with the text of a datum of at most so many levels
pub record BeginsDatum (n : ℕ) (os : List ℕ) (d : Datum) (rest : List ℕ) : Type 0 where
  pub spelled : os ≡ data_text d ++ rest
  pub whole : IsLeaf d → IsEnd rest
  pub lawful : IsTextWithin n d

-- whether this octet is the first
abbrev pub begins_with : ℕ → List ℕ → Bool
begins_with c [] = false
begins_with c (first ∷ more) = first == c

-- a bracket that closes members
abbrev pub IsClosing : ℕ → Type 0
IsClosing close = (close ≡ 93) ⊎ (close ≡ 125)

-- a front part of a text, behind which so many octets are left, stands at the front of a spelling
pub record Shares (os : List ℕ) (left : ℕ) (spelling : List ℕ) : Type 0 where
  pub front : List ℕ
  pub rest : List ℕ
  pub more : List ℕ
  pub parts : os ≡ front ++ rest
  pub end : length rest ≡ left
  pub spelled : spelling ≡ front ++ more

-- a datum of at most so many levels, whose text begins with a front part of this one
pub record BegunDatum (n : ℕ) (os : List ℕ) (left : ℕ) : Type 0 where
  pub value : Datum
  pub lawful : IsTextWithin n value
  pub shares : Shares os left (data_text value)

-- a text does not begin with a datum of at most so many levels, and from its first bad place on it
-- has so many octets; where no level is left, nothing may stand
pub record BreaksDatum (n : ℕ) (os : List ℕ) (left : ℕ) : Type 0 where
  pub none : n ≡ 0 → left ≡ length os
  pub begins : 0 < n → BegunDatum n os left
  pub longest : (d : Datum) (tail : List ℕ) → IsTextWithin n d → IsEnd tail → (l : ℕ)
      → Shares os l (data_text d ++ tail) → left ≤ l
  pub unspelled : (d : Datum) (tail : List ℕ) → IsTextWithin n d → IsEnd tail
      → os ≢ data_text d ++ tail

-- members of at most so many levels, whose text begins with a front part of this one
pub record BegunMembers (n close : ℕ) (os : List ℕ) (left : ℕ) : Type 0 where
  pub members : Data
  pub lawful : AreWithin n members
  pub shares : Shares os left (members_text members ++ close ∷ [])

-- a text does not begin with members of at most so many levels and a closing bracket, and from its
-- first bad place on it has so many octets
pub record BreaksMembers (n close : ℕ) (os : List ℕ) (left : ℕ) : Type 0 where
  pub begins : BegunMembers n close os left
  pub longest : (ds : Data) (tail : List ℕ) → AreWithin n ds → (l : ℕ)
      → Shares os l (members_text ds ++ close ∷ tail) → left ≤ l
  pub unspelled : (ds : Data) (tail : List ℕ) → AreWithin n ds
      → os ≢ members_text ds ++ close ∷ tail

-- a text breaks with so many octets left
abbrev pub BreaksBefore : List ℕ → ℕ → Type 0
BreaksBefore os left = (place : ℕ) → place + left ≡ length os → BreaksAt os place

-- a reading stopped because of the text, and with so many octets left
abbrev pub HaltsInText : Halt → (ℕ → Type 0) → Type 0
HaltsInText halts.Memory P = Unit {0}
HaltsInText (halts.Bad left) P = P left
