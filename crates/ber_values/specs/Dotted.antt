-- Object identifiers as text: numbers joined by dots.
use Rattle.std.specs.Prelude.{ℕ, ◌+◌, ◌*◌, ◌/◌, ◌%◌, Bool, false, ◌&&◌, nat_le, ◌==◌, List, [], ◌∷◌}
use Rattle.std.specs.Prelude.{◌++◌, length, map, Option, Some, None, option_and_then}
use Rattle.std.specs.Prelude.{if◌then◌else◌}
use Rattle.std.specs.List.{slice_split, flat_map}
use Rattle.std.specs.Int.Digits.{digits_of}
use Rattle.plain_text.specs.Numbers.{number_up_to}
use Rattle.plain_text.specs.Words.{each_in}
use Rattle.ber_values.specs.declared.object_identifier.TheConstants.{ARC_LIMIT, FIRST_ARC_LIMIT}
use Rattle.ber_values.specs.declared.object_identifier.TheConstants.{SECOND_ARC_LIMIT, MORE_ARCS}

-- two arcs or more, the first two and their number up to their limits
abbrev pub is_oid : List ℕ → Bool
is_oid [] = false
is_oid (first ∷ []) = false
is_oid (first ∷ second ∷ more) =
    nat_le first FIRST_ARC_LIMIT && nat_le second SECOND_ARC_LIMIT
    && nat_le (length more) MORE_ARCS

-- a number in base 128, with 128 added to every digit but the last (ISO 8825-1, 8.19)
abbrev pub base_128 : ℕ → List ℕ
base_128 n = map (λ digit. 128 + digit) (digits_of 128 (n / 128)) ++ (n % 128) ∷ []

-- the contents octets of an object identifier
abbrev pub arcs_octets : List ℕ → List ℕ
arcs_octets [] = []
arcs_octets (first ∷ []) = []
arcs_octets (first ∷ second ∷ more) = (first * 40 + second) ∷ flat_map base_128 more

-- the object identifier that arcs are
abbrev pub oid_of : List ℕ → Option (List ℕ)
oid_of arcs = if is_oid arcs then Some (arcs_octets arcs) else None

-- the arcs that a word is: numbers up to their limit, joined by dots
abbrev pub arcs_in : List ℕ → Option (List ℕ)
arcs_in word = each_in (number_up_to ARC_LIMIT) (slice_split (λ octet. octet == 46) word)

-- the object identifier that a word is
abbrev pub dotted_in : List ℕ → Option (List ℕ)
dotted_in word = option_and_then oid_of (arcs_in word)
