-- Elements: a head and contents of a kind. What each spells, its first fault, and its written form.
use Rattle.std.specs.Prelude.{◌≡◌, ℕ, ◌-◌, ◌/◌, ◌%◌, ◌^◌, ◌<◌, Bool, false, ◌==◌, List, length, ℤ}
use Rattle.std.specs.Prelude.{pos, ◌⊎◌}
use Rattle.std.specs.Int.{w64}
use Rattle.std.specs.Int.RustNames.{FitsSigned}
use Rattle.std.specs.List.{slice_range}
use Rattle.ber_values.specs.declared.fault.BerFault.{BerFault}
use Rattle.ber_values.specs.declared.head.Head.{Head}
use Rattle.ber_values.specs.Bits.{Bits, IsBits}
use Rattle.ber_values.specs.Oid.{IsOid}
use Rattle.ber_values.specs.Visible.{IsVisible}
use Rattle.ber_values.specs.Heads.{SpellsHead, HeadFault}
use Rattle.ber_values.specs.Numbers.{SpellsInteger, IntegerFault, SpellsUnsigned, UnsignedFault}
use Rattle.ber_values.specs.Booleans.{SpellsBoolean, BooleanFault}
use Rattle.ber_values.specs.BitContents.{SpellsBits, BitsFault}
use Rattle.ber_values.specs.TextContents.{SpellsOid, OidFault, SpellsVisible, VisibleFault}
use Rattle.ber_values.specs.Writing.{integer_octets, boolean_octets, bits_octets}

pub data Kind : Type 0 where
  integer : Kind
  unsigned : Kind
  boolean : Kind
  bits : Kind
  oid : Kind
  visible : Kind

-- the values of a kind
abbrev pub Value : Kind → Type 0
Value integer = ℤ
Value unsigned = ℕ
Value boolean = Bool
Value bits = Bits
Value oid = List ℕ
Value visible = List ℕ

-- contents octets spell a value of a kind
abbrev pub SpellsContents : (kind : Kind) → Value kind → List ℕ → Type 0
SpellsContents integer value octets = SpellsInteger value octets
SpellsContents unsigned value octets = SpellsUnsigned value octets
SpellsContents boolean value octets = SpellsBoolean value octets
SpellsContents bits value octets = SpellsBits value octets
SpellsContents oid value octets = SpellsOid value octets
SpellsContents visible value octets = SpellsVisible value octets

-- the first fault of contents octets that spell none
abbrev pub FaultOf : Kind → Head → List ℕ → BerFault → Type 0
FaultOf integer head octets f = IntegerFault head octets f
FaultOf unsigned head octets f = UnsignedFault head octets f
FaultOf boolean head octets f = BooleanFault head octets f
FaultOf bits head octets f = BitsFault head octets f
FaultOf oid head octets f = OidFault head octets f
FaultOf visible head octets f = VisibleFault head octets f

-- the contents of a head, in octets that begin at a place
abbrev pub contents_from : ℕ → List ℕ → Head → List ℕ
contents_from at octets head = slice_range octets (head.body - at) (head.end - at)

-- a head and a value
pub record Element (kind : Kind) : Type 0 where
  pub head : Head
  pub value : Value kind

-- the octets from a place on begin with an element of a kind
abbrev pub SpellsElement : (kind : Kind) → ℕ → List ℕ → Element kind → Type 0
SpellsElement kind at octets element =
    SpellsHead at octets element.head
    × SpellsContents kind element.value (contents_from at octets element.head)

-- a head is spelled, and its contents break a rule
pub record FaultInContents (kind : Kind) (at : ℕ) (octets : List ℕ) (f : BerFault) : Type 0 where
  pub head : Head
  pub spelled : SpellsHead at octets head
  pub breaks : FaultOf kind head (contents_from at octets head) f

-- the first fault of octets that don't begin with an element of a kind
abbrev pub ElementFault : Kind → ℕ → List ℕ → BerFault → Type 0
ElementFault kind at octets f = HeadFault at octets f ⊎ FaultInContents kind at octets f

-- the contents octets that are written for a value
abbrev pub contents_octets : (kind : Kind) → Value kind → List ℕ
contents_octets integer value = integer_octets value
contents_octets unsigned value = integer_octets (pos value)
contents_octets boolean value = boolean_octets value
contents_octets bits value = bits_octets value
contents_octets oid value = value
contents_octets visible value = value

-- the values that can be written
abbrev pub IsWritable : (kind : Kind) → Value kind → Type 0
IsWritable integer value = FitsSigned w64 value
IsWritable unsigned value = value < 2 ^ 32
IsWritable boolean value = Unit {0}
IsWritable bits value = IsBits value × (length value.octets < 2 ^ 32 - 1)
IsWritable oid value = IsOid value
IsWritable visible value = IsVisible value

-- the octets from a place on begin with an element of this value and tag, which ends at this place
pub record WrittenAt (kind : Kind) (value : Value kind) (tag at : ℕ) (octets : List ℕ) (end : ℕ)
    : Type 0 where
  pub head : Head
  pub spelled : SpellsElement kind at octets (record { head = head; value = value })
  pub class : head.class ≡ tag / 64
  pub constructed : head.constructed ≡ (tag / 32 % 2 == 1)
  pub number : head.number ≡ tag % 32
  pub short : head.long_form ≡ false
  pub ends : head.end ≡ end
