-- Text in which some octets are escaped: how octets are spelled, and how such a text is read.
use Rattle.std.specs.Prelude.{◌≡◌, ℕ, ◌<◌, ◌≤◌, Bool, ◌&&◌, ◌||◌, ◌==◌, nat_lt, nat_le}
use Rattle.std.specs.Prelude.{if◌then◌else◌, List, [], ◌∷◌, length, flat_map, drop, Option, Some}
use Rattle.std.specs.Prelude.{None, MatchOption, option_map, option_and_then}
use Rattle.plain_text.specs.Numbers.{hex_pair_value}
use Rattle.plain_text.specs.Octets.{hex_pair}

-- a number below 256
abbrev pub is_octet : ℕ → Bool
is_octet octet = nat_lt octet 256

-- letters, digits, `_`, `$`, `-` and `.` stand for themselves in escaped text
abbrev pub is_plain : ℕ → Bool
is_plain octet =
    (nat_le 48 octet && nat_le octet 57) || (nat_le 65 octet && nat_le octet 90)
    || (nat_le 97 octet && nat_le octet 122)
    || (octet == 95) || (octet == 36) || (octet == 45) || (octet == 46)

-- an octet of escaped text: itself, or `%` and its two digits
abbrev pub escaped_octet : ℕ → List ℕ
escaped_octet octet = if is_plain octet then octet ∷ [] else 37 ∷ hex_pair octet

-- octets as escaped text
abbrev pub escaped_text : List ℕ → List ℕ
escaped_text octets = flat_map escaped_octet octets

-- an octet, unless it stands for itself
abbrev pub if_escaped : ℕ → Option ℕ
if_escaped octet = if is_plain octet then None else Some octet

-- the octet of two digits, unless it stands for itself
abbrev pub escaped_value : ℕ → ℕ → Option ℕ
escaped_value high low = option_and_then if_escaped (hex_pair_value high low)

-- an octet, before others
abbrev pub before_octets : ℕ → Option (List ℕ) → Option (List ℕ)
before_octets octet rest = option_map (λ octets. octet ∷ octets) rest

abbrev mutual
  -- the octets that an escaped text stands for
  pub unescaped : List ℕ → Option (List ℕ)
  unescaped [] = Some []
  unescaped (c ∷ cs) =
      if is_plain c then before_octets c (unescaped cs)
      else (if c == 37 then unescaped_high cs else None)

  -- the same behind a `%`
  pub unescaped_high : List ℕ → Option (List ℕ)
  unescaped_high [] = None
  unescaped_high (h ∷ cs) = unescaped_low cs h

  -- the same behind a `%` and a digit
  pub unescaped_low : List ℕ → ℕ → Option (List ℕ)
  unescaped_low [] h = None
  unescaped_low (l ∷ cs) h =
      option_and_then (λ octet. before_octets octet (unescaped cs)) (escaped_value h l)

-- the text stands for this octet and what its rest from this place on stands for
pub record BeginsWithOctet (escaped : List ℕ) (octet len : ℕ) : Type 0 where
  pub some : 0 < len
  pub within : len ≤ length escaped
  pub rest : unescaped escaped ≡ before_octets octet (unescaped (drop len escaped))

-- an octet and the length of its spelling, or nothing where the text stands for no octets
abbrev pub ReadsOctet : List ℕ → Option (ℕ × ℕ) → Type 0
ReadsOctet escaped first =
    MatchOption first (unescaped escaped ≡ None) (λ p. BeginsWithOctet escaped p.0 p.1)
