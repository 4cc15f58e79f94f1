-- The parts of data that hold values of points.
use Rattle.std.specs.Prelude.{◌≡◌, ◌⊎◌, ℕ, ℤ, ◌==◌, List, [], ◌∷◌, Option, Some, None}
use Rattle.std.specs.Prelude.{if◌then◌else◌}
use Rattle.std.specs.List.{slice_get}
use Rattle.ber_values.specs.Bits.{Bits}
use Rattle.tase_points.specs.declared.kind.Kind.{Kind}
use Rattle.tase_points.specs.declared.kind.Kind.TheVariants.{State}
use Rattle.tase_points.specs.declared.layout.Component.{Component}
use Rattle.tase_points.specs.declared.layout.Component.TheVariants.{Value, Flags}
use Rattle.mms_data.specs.Datum.{Datum, integer, unsigned, bits, real, structure}
use Rattle.mms_data.specs.Datum.{Data, no_data, datum}

-- a layout has a component
abbrev pub HasComponent : List Component → Component → Type 0
HasComponent layout component = (i : ℕ) × (slice_get layout i ≡ Some component)

-- a layout has the flags of values of a kind
abbrev pub CarriesFlags : List Component → Kind → Type 0
CarriesFlags layout kind = HasComponent layout Flags ⊎ (HasComponent layout Value × (kind ≡ State))

-- data as a list
abbrev pub list_of : Data → List Datum
list_of no_data = []
list_of (datum d ds) = d ∷ list_of ds

-- the members of a structure
abbrev pub structure_members : Datum → List Datum
structure_members (structure ds) = list_of ds
structure_members _ = []

-- the datum at a place of a layout: one component stands bare
abbrev pub member_in : List Component → Datum → ℕ → Option Datum
member_in [] value place = slice_get (structure_members value) place
member_in (component ∷ []) value place = Some value
member_in (component ∷ next ∷ more) value place = slice_get (structure_members value) place

-- the number of an integer
abbrev pub integer_part : Datum → Option ℤ
integer_part (integer z) = Some z
integer_part _ = None

-- the number of an unsigned integer
abbrev pub unsigned_part : Datum → Option ℕ
unsigned_part (unsigned n) = Some n
unsigned_part _ = None

-- the octets of a real value
abbrev pub real_part : Datum → Option (List ℕ)
real_part (real o) = Some o
real_part _ = None

-- the only octet
abbrev pub only_octet : List ℕ → Option ℕ
only_octet (octet ∷ []) = Some octet
only_octet _ = None

-- the octet of eight bits
abbrev pub octet_of_bits : Bits → Option ℕ
octet_of_bits b = if b.count == 8 then only_octet b.octets else None

-- the octet of a string of eight bits
abbrev pub octet_part : Datum → Option ℕ
octet_part (bits b) = octet_of_bits b
octet_part _ = None
