-- A value of MMS as data, whatever memory holds it.
use Rattle.std.specs.Prelude.{ℕ, ◌+◌, max, ℤ, Bool, List, [], ◌∷◌}
use Rattle.ber_values.specs.Bits.{Bits}

mutual
  pub data Datum : Type 0 where
    boolean : Bool → Datum
    integer : ℤ → Datum
    unsigned : ℕ → Datum
    bits : Bits → Datum
    real : List ℕ → Datum
    octets : List ℕ → Datum
    text : List ℕ → Datum
    structure : Data → Datum
    array : Data → Datum

  pub data Data : Type 0 where
    no_data : Data
    datum : Datum → Data → Data

-- a list of data, as the members of a structure or an array
abbrev pub data_of : List Datum → Data
data_of [] = no_data
data_of (d ∷ ds) = datum d (data_of ds)

abbrev mutual
  -- how many levels a datum has: one without members, and one more than its deepest member
  pub depth : Datum → ℕ
  depth (boolean b) = 1
  depth (integer z) = 1
  depth (unsigned n) = 1
  depth (bits b) = 1
  depth (real o) = 1
  depth (octets o) = 1
  depth (text o) = 1
  depth (structure ds) = deepest ds + 1
  depth (array ds) = deepest ds + 1

  -- the depth of the deepest member
  pub deepest : Data → ℕ
  deepest no_data = 0
  deepest (datum d ds) = max (depth d) (deepest ds)
