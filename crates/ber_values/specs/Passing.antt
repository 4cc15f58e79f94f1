-- Elements that are passed over.
use Rattle.std.specs.Prelude.{ℕ, Bool, ◌&&◌, not, ◌==◌, nat_le, List}
use Rattle.std.specs.List.{list_any}
use Rattle.ber_values.specs.Grammars.{Grammar, passed_within, passed_in}
use Rattle.ber_values.specs.Heads.{element_by, extent_of}

-- one element of any tag, with a sound head and whatever contents
unfoldable pub skip : Grammar (Unit {0})
skip = element_by extent_of

-- at most so many elements whose first octets pass a test
abbrev pub pass_within : (ℕ → Bool) → ℕ → Grammar (Unit {0})
pass_within skips n = passed_within skip skips n

-- a tag from low to high, other than those that are named
abbrev pub is_other : ℕ → ℕ → List ℕ → ℕ → Bool
is_other low high named tag =
    (nat_le low tag && nat_le tag high) && not (list_any (λ name. name == tag) named)

-- all elements, up to the first one whose first octet doesn't pass a test
unfoldable pub pass_in : (ℕ → Bool) → Grammar (Unit {0})
pass_in skips = passed_in skip skips
