-- Visible text: a short text of printing characters.
use Rattle.std.specs.Prelude.{ℕ, ◌≤◌, Bool, ◌&&◌, nat_le, List, length, IsTrue}
use Rattle.std.specs.List.{list_all}
use Rattle.ber_values.specs.declared.visible_string.TheConstants.{VISIBLE_LIMIT}

-- a space or a printing character of ASCII
abbrev pub is_visible_octet : ℕ → Bool
is_visible_octet octet = nat_le 32 octet && nat_le octet 126

-- octets up to the limit, each of them visible
abbrev pub IsVisible : List ℕ → Type 0
IsVisible octets = (length octets ≤ VISIBLE_LIMIT) × IsTrue (list_all is_visible_octet octets)
