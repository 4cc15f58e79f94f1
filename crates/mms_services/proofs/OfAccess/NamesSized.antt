-- The length of what is written for a name.
use Rattle.std.proofs.Common.{ℕ, ◌≤◌, List, ◌++◌, length, arith}
use Rattle.std.proofs.lemmas.List.{length-append}
use Rattle.ber_values.specs.Writing.{written}
use Rattle.ber_values.proofs.Capped.{length-written, part_size-most}
use Rattle.mms_data.specs.ObjectName.{ObjectName, IsName, IsScope, IsIdentifier}
use Rattle.mms_data.specs.NameOctets.{item_octets, name_octets}
use Rattle.mms_data.specs.declared.object_name.Scope.{Scope}
use Rattle.mms_data.specs.declared.object_name.Scope.TheVariants.{Vmd, Domain, Association}
use Rattle.mms_data.proofs.NameWritten.{visible-size}

-- a name is short
pub name-few : (n : ObjectName) → IsName n → length (name_octets n) ≤ 138
name-few n named = item-few n.scope n.item named.0 named.1
  where
    item-few : (scope : Scope) (item : List ℕ) → IsScope scope → IsIdentifier item → length (item_octets scope item) ≤ 138
    item-few Vmd item s i = omega (arith, visible-size 128 item i.1, i.1.0)
    item-few (Domain domain) item s i = omega (
      arith,
      length-written 161 (written 26 domain ++ written 26 item),
      part_size-most (length (written 26 domain ++ written 26 item)),
      length-append (written 26 domain) (written 26 item),
      visible-size 26 domain s.1,
      visible-size 26 item i.1,
      s.1.0,
      i.1.0,
    )
    item-few Association item s i = omega (arith, visible-size 130 item i.1, i.1.0)
