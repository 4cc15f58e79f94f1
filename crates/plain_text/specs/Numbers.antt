-- Numbers in plain text: decimal numbers, and hexadecimal octets.
use Rattle.std.specs.Prelude.{ℕ, zero, suc, ◌+◌, ◌-◌, ◌*◌, Bool, false, ◌&&◌, ◌==◌, nat_le, List}
use Rattle.std.specs.Prelude.{[], ◌∷◌, length, Option, Some, None, ℤ, pos, negsuc, int_le}
use Rattle.std.specs.Prelude.{option_and_then, if◌then◌else◌}
use Rattle.std.specs.Option.{option_map}
use Rattle.std.specs.Int.{is_in_range}
use Rattle.std.specs.Char.{is_ascii_digit}
use Rattle.std.specs.Str.{all_ascii_digits}
use Rattle.std.specs.Str.Parse.{digits_value}

-- one digit or more, and no leading zero
abbrev pub is_number : List ℕ → Bool
is_number [] = false
is_number (digit ∷ []) = is_ascii_digit digit
is_number (first ∷ next ∷ more) = is_in_range 49 57 first && all_ascii_digits (next ∷ more)

-- the number that a word is
abbrev pub number_in : List ℕ → Option ℕ
number_in word = if is_number word then Some (digits_value 10 word) else None

-- a value that passes a test
abbrev pub if_passes : {A : Type 0} → (A → Bool) → A → Option A
if_passes test value = if test value then Some value else None

-- the number that a word is, where it is at most `limit`
abbrev pub number_up_to : ℕ → List ℕ → Option ℕ
number_up_to limit word = option_and_then (if_passes (λ n. nat_le n limit)) (number_in word)

-- a number behind a minus; a minus before 0 is no number
abbrev pub negative : ℕ → Option ℤ
negative zero = None
negative (suc n) = Some (negsuc n)

-- the signed number that a word is
abbrev pub integer_of_word : List ℕ → Option ℤ
integer_of_word [] = None
integer_of_word (first ∷ more) =
    if first == 45 then option_and_then negative (number_in more)
    else option_map pos (number_in (first ∷ more))

-- the signed number that a word is, where it is from `low` to `high`
abbrev pub integer_word_within : ℤ → ℤ → List ℕ → Option ℤ
integer_word_within low high word =
    option_and_then (if_passes (λ z. int_le low z && int_le z high)) (integer_of_word word)

-- the value of a lower-case hexadecimal digit
abbrev pub hex_value : ℕ → Option ℕ
hex_value digit =
    if is_in_range 48 57 digit then Some (digit - 48)
    else (if is_in_range 97 102 digit then Some (digit - 87) else None)

-- the octet that two digits are
abbrev pub hex_pair_value : ℕ → ℕ → Option ℕ
hex_pair_value high low =
    option_and_then (λ h. option_map (λ l. h * 16 + l) (hex_value low)) (hex_value high)

-- the octets that a word of pairs of lower-case digits is
abbrev pub hex_in : List ℕ → Option (List ℕ)
hex_in [] = Some []
hex_in (high ∷ []) = None
hex_in (high ∷ low ∷ more) =
    option_and_then (λ octet. option_map (λ octets. octet ∷ octets) (hex_in more))
    (hex_pair_value high low)

-- the octets that a word is, where they are `count`
abbrev pub hex_octets : ℕ → List ℕ → Option (List ℕ)
hex_octets count word = option_and_then (if_passes (λ octets. length octets == count)) (hex_in word)

-- the octet that a word of two digits is
abbrev pub hex_octet : List ℕ → Option ℕ
hex_octet [] = None
hex_octet (high ∷ []) = None
hex_octet (high ∷ low ∷ []) = hex_pair_value high low
hex_octet (high ∷ low ∷ next ∷ more) = None
