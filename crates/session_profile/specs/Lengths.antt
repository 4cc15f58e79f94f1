-- Lengths (ISO 8327-1, length indicator): how each is spelled, and the first fault of octets that
-- don't begin with one.
use Rattle.std.specs.Prelude.{◌≡◌, ◌≢◌, ℕ, ◌+◌, ◌*◌, ◌<◌, List, [], ◌∷◌, length, Result, Ok, Err}
use Rattle.std.specs.Prelude.{◌==◌, if◌then◌else◌}
use Rattle.ber_values.specs.declared.fault.BerFault.{BerFault}
use Rattle.ber_values.specs.declared.fault.Why.TheVariants as whys
use Rattle.ber_values.specs.Faults.{fault_at}
use Rattle.ber_values.specs.Reading.{Taken, Begins}
use Rattle.ber_values.specs.Grammars.{taken}

-- one octet that isn't 255; or 255 and two octets, also for a number that one octet could spell
abbrev pub SpellsSessionLength : ℕ → List ℕ → Type 0
SpellsSessionLength n (one ∷ []) = (one ≢ 255) × (n ≡ one)
SpellsSessionLength n (first ∷ high ∷ low ∷ []) = (first ≡ 255) × (n ≡ high * 256 + low)
SpellsSessionLength n _ = ⊥

-- the octets end before their length does
abbrev pub IsSessionLengthFront : List ℕ → Type 0
IsSessionLengthFront [] = Unit {0}
IsSessionLengthFront (first ∷ []) = first ≡ 255
IsSessionLengthFront (first ∷ high ∷ []) = first ≡ 255
IsSessionLengthFront _ = ⊥

abbrev pub SessionLengthFault : ℕ → List ℕ → BerFault → Type 0
SessionLengthFault at octets f = IsSessionLengthFront octets
    × (f ≡ fault_at (at + length octets) whys.Short)

-- fewer octets follow a length than it says
pub record IsShortOfLength (at : ℕ) (octets : List ℕ) (f : BerFault) : Type 0 where
  pub size : Taken ℕ
  pub spelled : Begins ℕ SpellsSessionLength at octets size
  pub past : length size.rest < size.value
  pub is : f ≡ fault_at at whys.Length

-- the two octets after 255
abbrev pub long_length_in : ℕ → List ℕ → Result (Taken ℕ) BerFault
long_length_in at (high ∷ low ∷ rest) = Ok (taken (high * 256 + low) (at + 2) rest)
long_length_in at octets = Err (fault_at (at + length octets) whys.Short)

-- reading a length from the left
unfoldable pub session_length_in : ℕ → List ℕ → Result (Taken ℕ) BerFault
session_length_in at [] = Err (fault_at at whys.Short)
session_length_in at (first ∷ rest) =
    if first == 255 then long_length_in (at + 1) rest else Ok (taken first (at + 1) rest)
