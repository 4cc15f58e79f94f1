-- Object identifiers, by their contents octets.
use Rattle.std.specs.Prelude.{ℕ, ◌<◌, ◌≤◌, List, length}
use Rattle.ber_values.specs.declared.object_identifier.TheConstants.{OID_LIMIT}

-- from one octet to the limit
abbrev pub IsOid : List ℕ → Type 0
IsOid octets = (0 < length octets) × (length octets ≤ OID_LIMIT)
