-- Names that take no memory.
use Rattle.std.specs.Prelude.{ℕ, ◌+◌, List, length}
use Rattle.mms_data.specs.declared.object_name.Scope.{Scope}
use Rattle.mms_data.specs.declared.object_name.Scope.TheVariants as scopes
use Rattle.mms_data.specs.ObjectName.{ObjectName}
use Rattle.centre_client.specs.declared.call_lines.names.ShortScope.{ShortScope}
use Rattle.centre_client.specs.declared.call_lines.names.ShortScope.TheVariants as shorts
use Rattle.centre_client.specs.declared.call_lines.names.ShortName.{ShortName}

abbrev pub scope_of : ShortScope → Scope
scope_of shorts.Vmd = scopes.Vmd
scope_of (shorts.Domain domain) = scopes.Domain domain.items
scope_of shorts.Association = scopes.Association

abbrev pub name_of : ShortName → ObjectName
name_of name = record { scope = scope_of name.scope; item = name.item.items }

-- how many octets an element has whose contents are a short text
abbrev pub element_size : List ℕ → ℕ
element_size octets = 2 + length octets
