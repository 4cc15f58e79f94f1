-- Names of variables: an item of a domain, of the whole server, or of one association.
use Rattle.std.specs.Prelude.{ℕ, ◌<◌, Bool, true, false, ◌&&◌, List, length}
use Rattle.std.specs.Str.{bytes_eq}
use Rattle.ber_values.specs.Visible.{IsVisible}
use Rattle.mms_data.specs.declared.object_name.Scope.{Scope}
use Rattle.mms_data.specs.declared.object_name.Scope.TheVariants.{Vmd, Domain, Association}

-- a scope and an item
pub record ObjectName : Type 0 where
  pub scope : Scope
  pub item : List ℕ

-- one to 64 visible octets
abbrev pub IsIdentifier : List ℕ → Type 0
IsIdentifier octets = (0 < length octets) × IsVisible octets

-- a domain has an identifier
abbrev pub IsScope : Scope → Type 0
IsScope Vmd = Unit {0}
IsScope (Domain domain) = IsIdentifier domain
IsScope Association = Unit {0}

-- the scope and the item have identifiers
abbrev pub IsName : ObjectName → Type 0
IsName name = IsScope name.scope × IsIdentifier name.item

-- whether two scopes are one
abbrev pub same_scope : Scope → Scope → Bool
same_scope Vmd Vmd = true
same_scope Vmd (Domain b) = false
same_scope Vmd Association = false
same_scope (Domain a) Vmd = false
same_scope (Domain a) (Domain b) = bytes_eq a b
same_scope (Domain a) Association = false
same_scope Association Vmd = false
same_scope Association (Domain b) = false
same_scope Association Association = true

-- whether two names are one
abbrev pub same_name : ObjectName → ObjectName → Bool
same_name a b = same_scope a.scope b.scope && bytes_eq a.item b.item
