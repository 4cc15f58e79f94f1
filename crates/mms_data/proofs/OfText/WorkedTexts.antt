-- Worked rows of how far words go on, and of what they stand for.
use Rattle.std.proofs.Common.{◌≡◌, [], ◌∷◌, Some, None, codes, refl}
use Rattle.mms_data.specs.Datum.{bits}
use Rattle.mms_data.specs.Text.WordValue.{word_value, word_of}
use Rattle.mms_data.specs.Text.WordFront.{word_front}

letter : word_front (codes "x1") ≡ 0
letter = refl

behind_boolean : word_front (codes "TT") ≡ 1
behind_boolean = refl

leading_zero : word_front (codes "i01") ≡ 2
leading_zero = refl

minus_zero : word_front (codes "i-0") ≡ 2
minus_zero = refl

too_large : word_front (codes "u9223372036854775808") ≡ 19
too_large = refl

most_negative : word_front (codes "i-9223372036854775808") ≡ 21
most_negative = refl

unused_bits : word_front (codes "b3.e1") ≡ 4
unused_bits = refl

too_many_digits : word_front (codes "b8.ff0") ≡ 5
too_many_digits = refl

ninth_digit : word_front (codes "f3f8000000") ≡ 9
ninth_digit = refl

upper_case : word_front (codes "oaB") ≡ 2
upper_case = refl

escaped_letter : word_front (codes "v%41") ≡ 3
escaped_letter = refl

control_octet : word_front (codes "v%1f") ≡ 2
control_octet = refl

first_word : word_of (codes "i12,T}") ≡ codes "i12"
first_word = refl

some_bits : word_value (codes "b3.e0") ≡ Some (bits (record { count = 3; octets = 224 ∷ [] }))
some_bits = refl

odd_digits : word_value (codes "oabc") ≡ None
odd_digits = refl
