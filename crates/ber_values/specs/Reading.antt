-- What it is to read exactly: a value only where it is spelled and wherever it is, else the first
-- fault.
use Rattle.std.specs.Prelude.{◌≡◌, ℕ, ◌+◌, ◌<◌, List, ◌++◌, length, ◌⊎◌, Result, Ok, Err}
use Rattle.ber_values.specs.declared.fault.BerFault.{BerFault}

-- what was read from the front: the value, the place of the next octet, and the octets from there
-- on
pub record Taken (X : Type 0) : Type 0 where
  pub value : X
  pub next : ℕ
  pub rest : List ℕ

-- some octets were taken from the front
abbrev pub IsAfter : ℕ → List ℕ → ℕ → List ℕ → Type 0
IsAfter at octets next rest = (at < next) × (next + length rest ≡ at + length octets)

-- the octets from a place on begin with a spelling
pub record Begins (X : Type 0) (Spells : X → List ℕ → Type 0) (at : ℕ) (octets : List ℕ)
    (taken : Taken X) : Type 0 where
  pub spelling : List ℕ
  pub spelled : Spells taken.value spelling
  pub parts : octets ≡ spelling ++ taken.rest
  pub place : taken.next ≡ at + length spelling

-- a reading answers exactly what is spelled, and exactly the first fault
pub record IsReading (X : Type 0) (Spelled : X → Type 0) (First : BerFault → Type 0)
    (read : Result X BerFault) : Type 0 where
  pub found : (x : X) → read ≡ Ok x → Spelled x
  pub only : (x : X) → Spelled x → read ≡ Ok x
  pub fault : (f : BerFault) → read ≡ Err f → First f
  pub first : (f : BerFault) → First f → read ≡ Err f

-- one of them, and no other
abbrev pub IsOne : (X : Type 0) → (X → Type 0) → Type 0
IsOne X P = (x : X) × P x × ((y : X) → P y → y ≡ x)

-- exactly one holds: exactly one value is spelled, or there is exactly one first fault
abbrev pub HasOneReading : (X : Type 0) → (X → Type 0) → (BerFault → Type 0) → Type 0
HasOneReading X Spelled First =
    (IsOne X Spelled × ((f : BerFault) → First f → ⊥))
    ⊎ (((x : X) → Spelled x → ⊥) × IsOne BerFault First)
