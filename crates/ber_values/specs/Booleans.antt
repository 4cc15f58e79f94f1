-- Booleans in contents octets.
use Rattle.std.specs.Prelude.{◌≡◌, ℕ, Bool, true, not, List, [], ◌∷◌, Result, slice_index, ◌==◌}
use Rattle.ber_values.specs.declared.fault.BerFault.{BerFault}
use Rattle.ber_values.specs.declared.head.Head.{Head}
use Rattle.ber_values.specs.Contents.{HasLength, has_length, ContentsFault, contents_in}

-- one octet, where any but 0 is true
abbrev pub SpellsBoolean : Bool → List ℕ → Type 0
SpellsBoolean value octets = (octet : ℕ) × (octets ≡ octet ∷ []) × (value ≡ not (octet == 0))

abbrev pub BooleanFault : Head → List ℕ → BerFault → Type 0
BooleanFault head octets = ContentsFault (HasLength 1 1 octets) ⊥ head

unfoldable pub boolean_in : Head → List ℕ → Result Bool BerFault
boolean_in head octets =
    contents_in (has_length 1 1 octets) true (not (slice_index octets 0 == 0)) head
