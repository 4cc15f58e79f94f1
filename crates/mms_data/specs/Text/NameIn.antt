-- The name that a text stands for.
use Rattle.std.specs.Prelude.{ℕ, ◌+◌, Bool, ◌&&◌, ◌||◌, ◌==◌, nat_lt, nat_le, if◌then◌else◌, List}
use Rattle.std.specs.Prelude.{length, slice_index, codes, Option, Some, None, option_map}
use Rattle.std.specs.Prelude.{option_and_then}
use Rattle.std.proofs.Common.{take, drop}
use Rattle.std.specs.List.{list_all, position}
use Rattle.std.specs.Str.{bytes_eq}
use Rattle.plain_text.specs.Escaped.{unescaped}
use Rattle.ber_values.specs.Visible.{is_visible_octet}
use Rattle.ber_values.specs.declared.visible_string.TheConstants.{VISIBLE_LIMIT}
use Rattle.mms_data.specs.declared.object_name.Scope.{Scope}
use Rattle.mms_data.specs.declared.object_name.Scope.TheVariants.{Vmd, Domain, Association}
use Rattle.mms_data.specs.ObjectName.{ObjectName}

-- octets that an item or a domain may have
abbrev pub if_identifier : List ℕ → Option (List ℕ)
if_identifier octets =
    if nat_lt 0 (length octets) && nat_le (length octets) VISIBLE_LIMIT
    && list_all is_visible_octet octets
    then Some octets else None

-- the item or the domain that an escaped text stands for
abbrev pub identifier_in : List ℕ → Option (List ℕ)
identifier_in escaped = option_and_then if_identifier (unescaped escaped)

-- a colon or a slash
abbrev pub is_separator : ℕ → Bool
is_separator octet = (octet == 58) || (octet == 47)

-- the scope before a separator
abbrev pub scope_in : List ℕ → ℕ → Option Scope
scope_in before separator =
    if separator == 47 then option_map Domain (identifier_in before)
    else (if bytes_eq before (codes "vmd") then Some Vmd
    else (if bytes_eq before (codes "aa") then Some Association else None))

-- the name of a scope, a separator and an item
abbrev pub name_of_parts : List ℕ → ℕ → List ℕ → Option ObjectName
name_of_parts before separator after =
    option_and_then
    (λ scope. option_map (λ item. record { scope = scope; item = item }) (identifier_in after))
    (scope_in before separator)

-- the name whose text this is: a scope up to the first separator, and an item
abbrev pub name_in : List ℕ → Option ObjectName
name_in name =
    option_and_then
    (λ place. name_of_parts (take place name) (slice_index name place) (drop (place + 1) name))
    (position is_separator name)
