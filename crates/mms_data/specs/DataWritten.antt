-- The written form of data: the shortest lengths and integers.
use Rattle.std.specs.Prelude.{ℕ, List, [], ◌∷◌, ◌++◌, length, pos}
use Rattle.ber_values.specs.Writing.{written, boolean_octets, bits_octets, integer_octets}
use Rattle.ber_values.specs.Lengths.{capped}
use Rattle.mms_data.specs.Datum.{Datum, boolean, integer, unsigned, bits, real, octets, text}
use Rattle.mms_data.specs.Datum.{structure, array, Data, no_data, datum}

abbrev mutual
  pub datum_octets : Datum → List ℕ
  datum_octets (boolean b) = written 131 (boolean_octets b)
  datum_octets (bits b) = written 132 (bits_octets b)
  datum_octets (integer z) = written 133 (integer_octets z)
  datum_octets (unsigned n) = written 134 (integer_octets (pos n))
  datum_octets (real o) = written 135 (8 ∷ o)
  datum_octets (octets o) = written 137 o
  datum_octets (text o) = written 138 o
  datum_octets (structure ds) = written 162 (members_octets ds)
  datum_octets (array ds) = written 161 (members_octets ds)

  -- members, one after another
  pub members_octets : Data → List ℕ
  members_octets no_data = []
  members_octets (datum d ds) = datum_octets d ++ members_octets ds

-- how many octets are written, or the most that a length is said to be
abbrev pub datum_len : Datum → ℕ
datum_len d = capped (length (datum_octets d))
