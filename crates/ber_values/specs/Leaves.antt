-- Contents that hold no elements.
use Rattle.std.specs.Prelude.{◌≡◌, ◌≢◌, ℕ, ◌+◌, ◌^◌, ◌<◌, Bool, true, false, ◌&&◌}
use Rattle.std.specs.Prelude.{List, [], ◌∷◌, length, slice_index, ℤ, pos, ◌<ℤ◌, ◌≤ℤ◌}
use Rattle.std.specs.Prelude.{int_le, Option, Some, None, ◌⊎◌, Result, Ok, Err, nat_le}
use Rattle.std.specs.Prelude.{◌==◌, if◌then◌else◌}
use Rattle.std.specs.List.{list_all}
use Rattle.ber_values.specs.declared.fault.BerFault.{BerFault}
use Rattle.ber_values.specs.declared.fault.Span.{Span}
use Rattle.ber_values.specs.declared.fault.Why.TheVariants as whys
use Rattle.ber_values.specs.declared.head.Head.{Head}
use Rattle.ber_values.specs.Faults.{fault_at}
use Rattle.ber_values.specs.Bits.{Bits}
use Rattle.ber_values.specs.Visible.{is_visible_octet}
use Rattle.ber_values.specs.Contents.{HasLength, has_length, ContentsFault, contents_in}
use Rattle.ber_values.specs.Numbers.{twos_complement, SpellsInteger, IntegerFault, integer_in}
use Rattle.ber_values.specs.Numbers.{SpellsUnsigned, UnsignedFault, unsigned_in, is_number_below}
use Rattle.ber_values.specs.Numbers.{unsigned_of}
use Rattle.ber_values.specs.Booleans.{SpellsBoolean, BooleanFault, boolean_in}
use Rattle.ber_values.specs.BitContents.{SpellsBits, BitsFault, bits_in}
use Rattle.ber_values.specs.TextContents.{SpellsOid, OidFault, oid_in, SpellsVisible, VisibleFault}
use Rattle.ber_values.specs.TextContents.{visible_in}
use Rattle.ber_values.specs.Parts.{Contents, contents_where}

unfoldable pub integer : Contents ℤ
integer = record {
  spells = λ at. SpellsInteger;
  fault = IntegerFault;
  reading = integer_in;
}

-- an integer from 0 to 2^32 - 1
unfoldable pub unsigned : Contents ℕ
unsigned = record {
  spells = λ at. SpellsUnsigned;
  fault = UnsignedFault;
  reading = unsigned_in;
}

unfoldable pub boolean : Contents Bool
boolean = record {
  spells = λ at. SpellsBoolean;
  fault = BooleanFault;
  reading = boolean_in;
}

unfoldable pub bits : Contents Bits
bits = record {
  spells = λ at. SpellsBits;
  fault = BitsFault;
  reading = bits_in;
}

unfoldable pub oid : Contents (List ℕ)
oid = record {
  spells = λ at. SpellsOid;
  fault = OidFault;
  reading = oid_in;
}

unfoldable pub visible : Contents (List ℕ)
visible = record {
  spells = λ at. SpellsVisible;
  fault = VisibleFault;
  reading = visible_in;
}

-- an integer from 0 to 2^63 - 1
abbrev pub SpellsNatural : ℕ → List ℕ → Type 0
SpellsNatural value octets = SpellsInteger (pos value) octets × (value < 2 ^ 63)

abbrev pub NaturalFault : Head → List ℕ → BerFault → Type 0
NaturalFault head octets = ContentsFault (HasLength 1 8 octets)
    ((twos_complement octets <ℤ pos 0) ⊎ (pos (2 ^ 63) ≤ℤ twos_complement octets)) head

unfoldable pub natural_in : Head → List ℕ → Result ℕ BerFault
natural_in head octets = contents_in (has_length 1 8 octets)
    (is_number_below (2 ^ 63) (twos_complement octets)) (unsigned_of (twos_complement octets)) head

unfoldable pub natural : Contents ℕ
natural = record {
  spells = λ at. SpellsNatural;
  fault = NaturalFault;
  reading = natural_in;
}

-- one octet
unfoldable pub octet_in : Head → List ℕ → Result ℕ BerFault
octet_in head octets = contents_in (has_length 1 1 octets) true (slice_index octets 0) head

unfoldable pub octet : Contents ℕ
octet = record {
  spells = λ at value octets. octets ≡ value ∷ [];
  fault = λ head octets. ContentsFault (HasLength 1 1 octets) ⊥ head;
  reading = octet_in;
}

-- any octets
unfoldable pub raw : Contents (List ℕ)
raw = record {
  spells = λ at value octets. value ≡ octets;
  fault = λ head octets f. ⊥;
  reading = λ head octets. Ok octets;
}

-- where octets stand
abbrev pub span_at : ℕ → List ℕ → Span
span_at at octets = record { from = at; to = at + length octets }

-- any octets, by their places
unfoldable pub span : Contents Span
span = record {
  spells = λ at value octets. value ≡ span_at at octets;
  fault = λ head octets f. ⊥;
  reading = λ head octets. Ok (span_at head.body octets);
}

-- visible text of at least and at most so many octets
abbrev pub SpellsText : ℕ → ℕ → List ℕ → List ℕ → Type 0
SpellsText least most text octets = HasLength least most octets
    × (list_all is_visible_octet octets ≡ true) × (text ≡ octets)

abbrev pub TextFault : ℕ → ℕ → Head → List ℕ → BerFault → Type 0
TextFault least most head octets = ContentsFault (HasLength least most octets)
    (list_all is_visible_octet octets ≡ false) head

unfoldable pub text_in : ℕ → ℕ → Head → List ℕ → Result (List ℕ) BerFault
text_in least most head octets =
    contents_in (has_length least most octets) (list_all is_visible_octet octets) octets head

unfoldable pub visible_within : ℕ → ℕ → Contents (List ℕ)
visible_within least most = record {
  spells = λ at. SpellsText least most;
  fault = TextFault least most;
  reading = text_in least most;
}

-- an integer in a range
unfoldable pub integer_within : ℤ → ℤ → Contents ℤ
integer_within low high = contents_where (λ z. int_le low z && int_le z high) integer

-- an integer in a range of those from 0 to 2^32 - 1
unfoldable pub unsigned_within : ℕ → ℕ → Contents ℕ
unsigned_within low high = contents_where (λ n. nat_le low n && nat_le n high) unsigned

-- a selector of a layer: 0 to 32 octets, none of which is no selector
abbrev pub selector_of : List ℕ → Option (List ℕ)
selector_of [] = None
selector_of (first ∷ octets) = Some (first ∷ octets)

unfoldable pub selector_in : Head → List ℕ → Result (Option (List ℕ)) BerFault
selector_in head octets = contents_in (has_length 0 32 octets) true (selector_of octets) head

unfoldable pub selector : Contents (Option (List ℕ))
selector = record {
  spells = λ at value octets. HasLength 0 32 octets × (value ≡ selector_of octets);
  fault = λ head octets. ContentsFault (HasLength 0 32 octets) ⊥ head;
  reading = selector_in;
}

-- octets are these, or else the first place where they aren't
abbrev pub same_from : ℕ → List ℕ → List ℕ → Result (Unit {0}) BerFault
same_from at [] octets = Ok tt
same_from at (x ∷ xs) [] = Ok tt
same_from at (x ∷ xs) (y ∷ ys) =
    if y == x then same_from (at + 1) xs ys else Err (fault_at at whys.Value)

-- the first octet that isn't what it has to be
pub record FirstWrong (at : ℕ) (wanted octets : List ℕ) (f : BerFault) : Type 0 where
  pub index : ℕ
  pub within : index < length octets
  pub same_before : (i : ℕ) → i < index → slice_index octets i ≡ slice_index wanted i
  pub wrong : slice_index octets index ≢ slice_index wanted index
  pub is : f ≡ fault_at (at + index) whys.Value

unfoldable pub fixed : List ℕ → Contents (Unit {0})
fixed wanted = record {
  spells = λ at value octets. octets ≡ wanted;
  fault = λ head octets f.
      ((length octets ≢ length wanted) × (f ≡ fault_at head.length_at whys.Length))
      ⊎ ((length octets ≡ length wanted) × FirstWrong head.body wanted octets f);
  reading = λ head octets. if length octets == length wanted
      then same_from head.body wanted octets else Err (fault_at head.length_at whys.Length);
}
