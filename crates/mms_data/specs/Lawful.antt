-- Data that octets can spell: not too deep, and no unsigned number above 2^63 - 1.
use Rattle.std.specs.Prelude.{◌≡◌, ◌^◌, ◌<◌, ◌≤◌, length}
use Rattle.std.specs.Int.{w64}
use Rattle.std.specs.Int.RustNames.{FitsSigned}
use Rattle.ber_values.specs.Bits.{IsBits}
use Rattle.ber_values.specs.Visible.{IsVisible}
use Rattle.mms_data.specs.declared.data.octets.TheConstants.{MOST_DEPTH}
use Rattle.mms_data.specs.Datum.{Datum, boolean, integer, unsigned, bits, real, octets, text}
use Rattle.mms_data.specs.Datum.{structure, array, Data, no_data, datum, depth}

abbrev mutual
  -- each unsigned number is at most 2^63 - 1
  pub KeepsUnsigned : Datum → Type 0
  KeepsUnsigned (boolean b) = Unit {0}
  KeepsUnsigned (integer z) = Unit {0}
  KeepsUnsigned (unsigned n) = n < 2 ^ 63
  KeepsUnsigned (bits b) = Unit {0}
  KeepsUnsigned (real o) = Unit {0}
  KeepsUnsigned (octets o) = Unit {0}
  KeepsUnsigned (text o) = Unit {0}
  KeepsUnsigned (structure ds) = KeepUnsigned ds
  KeepsUnsigned (array ds) = KeepUnsigned ds

  -- the same of each member
  pub KeepUnsigned : Data → Type 0
  KeepUnsigned no_data = Unit {0}
  KeepUnsigned (datum d ds) = KeepsUnsigned d × KeepUnsigned ds

-- at most so many levels, each unsigned number at most 2^63 - 1
pub record IsLawful (d : Datum) : Type 0 where
  pub shallow : depth d ≤ MOST_DEPTH
  pub numbers : KeepsUnsigned d

abbrev mutual
  -- what the type of a value keeps of each part: integers of 64 bits, bits in their octets,
  -- four octets of a real number, visible text
  pub IsHeld : Datum → Type 0
  IsHeld (boolean b) = Unit {0}
  IsHeld (integer z) = FitsSigned w64 z
  IsHeld (unsigned n) = Unit {0}
  IsHeld (bits b) = IsBits b
  IsHeld (real o) = length o ≡ 4
  IsHeld (octets o) = Unit {0}
  IsHeld (text o) = IsVisible o
  IsHeld (structure ds) = AreHeld ds
  IsHeld (array ds) = AreHeld ds

  -- the same of each member
  pub AreHeld : Data → Type 0
  AreHeld no_data = Unit {0}
  AreHeld (datum d ds) = IsHeld d × AreHeld ds
