-- Digits of a number.
use Rattle.std.proofs.Common.{◌≡◌, ℕ, ◌&&◌, List, [], ◌∷◌, refl, ap}
use Rattle.std.specs.List.{list_all}
use Rattle.std.specs.Char.{is_ascii_digit}
use Rattle.std.specs.Str.{all_ascii_digits}

pub all_digits : (octets : List ℕ) → list_all is_ascii_digit octets ≡ all_ascii_digits octets
all_digits [] = refl
all_digits (octet ∷ octets) = ap (λ rest. is_ascii_digit octet && rest) (all_digits octets)
