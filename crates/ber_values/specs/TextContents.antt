-- Object identifiers and visible text in contents octets.
use Rattle.std.specs.Prelude.{◌≡◌, ℕ, ◌≤◌, true, false, List, length, Result, nat_le}
use Rattle.std.specs.List.{list_all}
use Rattle.ber_values.specs.declared.fault.BerFault.{BerFault}
use Rattle.ber_values.specs.declared.head.Head.{Head}
use Rattle.ber_values.specs.declared.object_identifier.TheConstants.{OID_LIMIT}
use Rattle.ber_values.specs.declared.visible_string.TheConstants.{VISIBLE_LIMIT}
use Rattle.ber_values.specs.Oid.{IsOid}
use Rattle.ber_values.specs.Visible.{is_visible_octet, IsVisible}
use Rattle.ber_values.specs.Contents.{HasLength, has_length, ContentsFault, contents_in}

-- an object identifier is its contents octets
abbrev pub SpellsOid : List ℕ → List ℕ → Type 0
SpellsOid oid octets = IsOid octets × (oid ≡ octets)

abbrev pub OidFault : Head → List ℕ → BerFault → Type 0
OidFault head octets = ContentsFault (HasLength 1 OID_LIMIT octets) ⊥ head

unfoldable pub oid_in : Head → List ℕ → Result (List ℕ) BerFault
oid_in head octets = contents_in (has_length 1 OID_LIMIT octets) true octets head

-- visible text is its contents octets
abbrev pub SpellsVisible : List ℕ → List ℕ → Type 0
SpellsVisible text octets = IsVisible octets × (text ≡ octets)

-- some octet isn't visible
abbrev pub VisibleFault : Head → List ℕ → BerFault → Type 0
VisibleFault head octets =
    ContentsFault (length octets ≤ VISIBLE_LIMIT) (list_all is_visible_octet octets ≡ false) head

unfoldable pub visible_in : Head → List ℕ → Result (List ℕ) BerFault
visible_in head octets =
    contents_in (nat_le (length octets) VISIBLE_LIMIT) (list_all is_visible_octet octets)
    octets head
