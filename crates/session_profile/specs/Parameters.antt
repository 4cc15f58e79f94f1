-- Parameters, and SPDUs, which have the same form: an identifier, a length and as many octets
-- (ISO 8327-1, PI and PGI units).
use Rattle.std.specs.Prelude.{◌≡◌, ℕ, ◌+◌, Bool, List, [], ◌∷◌, ◌++◌, length, take, drop, Option}
use Rattle.std.specs.Prelude.{Some, None, Result, Ok, Err, ◌⊎◌, nat_lt, ◌==◌, if◌then◌else◌}
use Rattle.ber_values.specs.declared.fault.BerFault.{BerFault}
use Rattle.ber_values.specs.declared.fault.Why.TheVariants as whys
use Rattle.ber_values.specs.Faults.{fault_at, ◌>>=◌}
use Rattle.ber_values.specs.Reading.{Taken}
use Rattle.ber_values.specs.Grammars.{taken}
use Rattle.session_profile.specs.Lengths.{SpellsSessionLength, SessionLengthFault, IsShortOfLength}
use Rattle.session_profile.specs.Lengths.{session_length_in}

pub record Parameter : Type 0 where
  pub identifier : ℕ
  -- where it begins
  pub place : ℕ
  -- where its contents begin
  pub body : ℕ
  pub contents : List ℕ

-- the octets from a place on begin with a parameter
pub record BeginsParameter (at : ℕ) (octets : List ℕ) (t : Taken Parameter) : Type 0 where
  -- the octets of its length
  pub size : List ℕ
  pub spelled : SpellsSessionLength (length t.value.contents) size
  pub parts : octets ≡ t.value.identifier ∷ (size ++ (t.value.contents ++ t.rest))
  pub place : t.value.place ≡ at
  pub body : t.value.body ≡ at + 1 + length size
  pub next : t.next ≡ t.value.body + length t.value.contents

-- the first fault of octets that begin with none
abbrev pub ParameterFault : ℕ → List ℕ → BerFault → Type 0
ParameterFault at [] f = f ≡ fault_at at whys.Short
ParameterFault at (identifier ∷ octets) f =
    SessionLengthFault (at + 1) octets f ⊎ IsShortOfLength (at + 1) octets f

-- the octets from a place on begin with these parameters, up to a place before other octets
abbrev pub BeginsParameters : ℕ → List ℕ → List Parameter → ℕ → List ℕ → Type 0
BeginsParameters at octets [] next rest = (next ≡ at) × (rest ≡ octets)
BeginsParameters at octets (p ∷ ps) next rest = (t : Taken Parameter)
    × BeginsParameter at octets t × (p ≡ t.value) × BeginsParameters t.next t.rest ps next rest

abbrev pub last_parameter_of : Bool → Parameter → Option Parameter → Option Parameter
last_parameter_of here p (Some q) = Some q
last_parameter_of here p None = if here then Some p else None

-- the last parameter of an identifier, where one stands
abbrev pub found : ℕ → List Parameter → Option Parameter
found identifier [] = None
found identifier (p ∷ ps) = last_parameter_of (p.identifier == identifier) p (found identifier ps)

abbrev pub parameter : ℕ → ℕ → Taken ℕ → Parameter
parameter identifier at size = record {
  identifier = identifier;
  place = at;
  body = size.next;
  contents = take size.value size.rest;
}

-- a parameter whose length was read, where as many octets stand
abbrev pub sized_parameter_in : ℕ → ℕ → Taken ℕ → Result (Taken Parameter) BerFault
sized_parameter_in identifier at size = if nat_lt (length size.rest) size.value
    then Err (fault_at (at + 1) whys.Length)
    else Ok (taken (parameter identifier at size) (size.next + size.value)
    (drop size.value size.rest))

-- reading a parameter from the left
unfoldable pub parameter_in : ℕ → List ℕ → Result (Taken Parameter) BerFault
parameter_in at [] = Err (fault_at at whys.Short)
parameter_in at (identifier ∷ octets) = session_length_in (at + 1) octets >>=
    sized_parameter_in identifier at

-- contents that need a length and keep a rule, or else the fault: the length comes first
abbrev pub ParameterContentsFault : Type 0 → Type 0 → Parameter → BerFault → Type 0
ParameterContentsFault Allowed Broken p f = ((Allowed → ⊥)
    × (f ≡ fault_at (p.place + 1) whys.Length))
    ⊎ (Allowed × Broken × (f ≡ fault_at p.body whys.Value))

abbrev pub judged_by : Bool → Bool → Parameter → Result (Unit {0}) BerFault
judged_by allowed kept p = if allowed
    then (if kept then Ok tt else Err (fault_at p.body whys.Value))
    else Err (fault_at (p.place + 1) whys.Length)

-- the octets go no further
abbrev pub spdu_end_in : {X : Type 0} → X → ℕ → List ℕ → Result X BerFault
spdu_end_in x at [] = Ok x
spdu_end_in x at (first ∷ octets) = Err (fault_at at whys.Tag)
