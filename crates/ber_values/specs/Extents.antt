-- What stands behind a tag (ISO 8825-1, 8.1.3 to 8.1.5): a length and as many contents octets, or
-- contents that are ended by octets of their own.
use Rattle.std.specs.Prelude.{◌≡◌, ◌≢◌, ℕ, ◌+◌, ◌-◌, ◌<◌, ◌≤◌, ◌==◌, ◌&&◌, not, Bool, List, [], ◌∷◌}
use Rattle.std.specs.Prelude.{length, take, drop, ◌⊎◌, Result, Ok, Err, nat_lt, if◌then◌else◌}
use Rattle.ber_values.specs.declared.fault.BerFault.{BerFault}
use Rattle.ber_values.specs.declared.fault.Why.{Why}
use Rattle.ber_values.specs.declared.fault.Why.TheVariants as whys
use Rattle.ber_values.specs.Faults.{fault_at, ◌>>=◌}
use Rattle.ber_values.specs.Reading.{Taken, Begins}
use Rattle.ber_values.specs.Tags.{SpellsLength, LengthFault, length_in}
use Rattle.ber_values.specs.Grammars.{Grammar, taken, then_in, map_in, passed_in, first_is}

-- contents octets, the place of the first one, and the place behind the last one
pub record Extent : Type 0 where
  pub body : ℕ
  pub end : ℕ
  pub contents : List ℕ

-- ---- with a length

-- as many octets as a length says
abbrev pub sized : Taken ℕ → Taken Extent
sized size = record {
  value = record {
    body = size.next;
    end = size.next + size.value;
    contents = take size.value size.rest;
  };
  next = size.next + size.value;
  rest = drop size.value size.rest;
}

-- a length, and no fewer octets than it says
pub record BeginsSized (at : ℕ) (octets : List ℕ) (extent : Taken Extent) : Type 0 where
  pub size : Taken ℕ
  pub size_spelled : Begins ℕ SpellsLength at octets size
  pub within : size.value ≤ length size.rest
  pub is : extent ≡ sized size

-- a length passes the end of the octets
pub record IsPastEnd (at : ℕ) (octets : List ℕ) (f : BerFault) : Type 0 where
  pub size : Taken ℕ
  pub size_spelled : Begins ℕ SpellsLength at octets size
  pub past : length size.rest < size.value
  pub is : f ≡ fault_at at whys.Length

-- contents with a length
unfoldable pub definite : Grammar Extent
definite = record {
  begins = BeginsSized;
  fault = λ at octets f. LengthFault at octets f ⊎ IsPastEnd at octets f;
  reading = λ at octets. length_in at octets >>= λ size.
      if nat_lt (length size.rest) size.value then Err (fault_at at whys.Length)
      else Ok (sized size);
}

-- ---- with an end of their own

-- the first octet is this one
abbrev pub BeginsOctet : ℕ → ℕ → List ℕ → Taken (Unit {0}) → Type 0
BeginsOctet octet at [] t = ⊥
BeginsOctet octet at (first ∷ rest) t = (first ≡ octet) × (t ≡ taken tt (at + 1) rest)

-- no octet is left, or it is another one, which is refused for this reason
abbrev pub OctetFault : ℕ → Why → ℕ → List ℕ → BerFault → Type 0
OctetFault octet why at [] f = f ≡ fault_at at whys.Short
OctetFault octet why at (first ∷ rest) f = (first ≢ octet) × (f ≡ fault_at at why)

abbrev pub read_octet : ℕ → Why → ℕ → List ℕ → Result (Taken (Unit {0})) BerFault
read_octet octet why at [] = Err (fault_at at whys.Short)
read_octet octet why at (first ∷ rest) =
    if first == octet then Ok (taken tt (at + 1) rest) else Err (fault_at at why)

-- this octet, else a fault for this reason
unfoldable pub this_octet_in : ℕ → Why → Grammar (Unit {0})
this_octet_in octet why = record {
  begins = BeginsOctet octet;
  fault = OctetFault octet why;
  reading = read_octet octet why;
}

-- the octets from a place up to the next one, as contents
abbrev pub extent_to : ℕ → List ℕ → ℕ → Extent
extent_to at octets next = record { body = at; end = next; contents = take (next - at) octets }

-- the octets that are taken, as contents
unfoldable pub spanned : Grammar (Unit {0}) → Grammar Extent
spanned g = record {
  begins = λ at octets u. (t : Taken (Unit {0})) × g.begins at octets t
      × (u ≡ taken (extent_to at octets t.next) t.next t.rest);
  fault = g.fault;
  reading = λ at octets. g.reading at octets
      >>= λ t. Ok (taken (extent_to at octets t.next) t.next t.rest);
}

-- the end of contents, two octets 00
unfoldable pub closing : Grammar (Unit {0})
closing = then_in (this_octet_in 0 whys.Tag) (λ u. this_octet_in 0 whys.Length)

-- whether an octet begins an element, and not the end of contents
abbrev pub is_element : ℕ → Bool
is_element first = not (first == 0)

-- elements up to the end of contents, and that end
unfoldable pub closed : Grammar (Unit {0}) → Grammar Extent
closed element = then_in (spanned (passed_in element is_element))
    (λ extent. map_in (λ u. extent) closing)

-- the octet that stands in place of a length, then such contents
unfoldable pub indefinite : Grammar (Unit {0}) → Grammar Extent
indefinite element = then_in (this_octet_in 128 whys.Length) (λ u. closed element)

-- whether the octets behind a tag have that octet at their front, and the tag may have it
abbrev pub is_indefinite : Bool → List ℕ → Bool
is_indefinite constructed octets = constructed && first_is (λ first. first == 128) octets
