-- The word that spells a datum without members stands for it.
use Rattle.std.proofs.Common.{◌≡◌, ℕ, suc, ◌+◌, ◌-◌, ◌*◌, ◌/◌, ◌%◌, ◌^◌, ◌<◌, ◌≤◌, true}
use Rattle.std.proofs.Common.{false, not, ◌&&◌, ◌==◌, nat_le, List, [], ◌∷◌, ◌++◌, length}
use Rattle.std.proofs.Common.{Some, ℤ, pos}
use Rattle.std.proofs.Common.{option_map, negsuc, int_le, decimal, refl, ap, ◌∙◌, append_assoc}
use Rattle.std.proofs.Common.{arith}
use Rattle.std.specs.Fmt.{signed_decimal}
use Rattle.std.specs.List.{list_all}
use Rattle.std.specs.Str.Parse.{AllDigits}
use Rattle.std.specs.Int.{w64}
use Rattle.std.specs.Int.RustNames.{FitsSigned}
use Rattle.std.proofs.Math.Seq.{take-append_seam, drop-append-add}
use Rattle.std.proofs.lemmas.Bool.{and_parts}
use Rattle.std.proofs.lemmas.Bool.Decides.{nat_tests}
use Rattle.std.proofs.lemmas.Fmt.{decimal_is_IsNumeral}
use Rattle.std.proofs.lemmas.Str.Parse.{digit_from_value}
use Rattle.plain_text.specs.Octets.{hex_digit, hex_text}
use Rattle.plain_text.specs.Escaped.{is_octet}
use Rattle.plain_text.specs.Numbers.{number_in, number_up_to, if_passes, negative, hex_in, hex_value}
use Rattle.plain_text.specs.Numbers.{hex_pair_value, hex_octets}
use Rattle.plain_text.specs.Numbers as numbers
use Rattle.plain_text.proofs.Decimal.{number_in-of_decimal}
use Rattle.plain_text.proofs.EscapedText.{hex_value-hex_digit, unescaped-escaped_text}
use Rattle.ber_values.specs.Bits.{Bits, IsBits}
use Rattle.ber_values.specs.Visible.{IsVisible}
use Rattle.ber_values.specs.declared.visible_string.TheConstants.{VISIBLE_LIMIT}
use Rattle.mms_data.specs.Datum.{Datum, boolean, integer, unsigned, bits, real, octets, text}
use Rattle.mms_data.specs.Datum.{structure, array}
use Rattle.mms_data.specs.Text.Texts.{data_text}
use Rattle.mms_data.specs.Text.WordValue as own
use Rattle.mms_data.specs.Text.TextRead.{IsLeaf, IsTextual, AreOctets}
use Rattle.mms_data.proofs.OfText.WordOctets.{small_octet}
use Rattle.mms_data.proofs.OfText.ReadName.{position-append, octets_from_visible}

hex_pair-read : (octet : ℕ) → octet < 256
    → hex_pair_value (hex_digit (octet / 16)) (hex_digit (octet % 16)) ≡ Some octet
hex_pair-read octet small =
    let quotient : octet / 16 < 16 = omega (arith, small) in
    let rest : octet % 16 < 16 = omega (arith, small) in
    let whole : octet / 16 * 16 + octet % 16 ≡ octet = omega arith in
    rw (hex_value-hex_digit (octet / 16) quotient, hex_value-hex_digit (octet % 16) rest, whole)
    refl

-- octets in digits are read back
pub hex_in-hex_text : (os : List ℕ) → AreOctets os → hex_in (hex_text os) ≡ Some os
hex_in-hex_text [] e = refl
hex_in-hex_text (octet ∷ os) e =
    let parts = and_parts (is_octet octet) _ e in
    rw (hex_pair-read octet (small_octet octet parts.0), hex_in-hex_text os parts.1) refl

pub number-read : (limit n : ℕ) → n < 2 ^ 64 → n ≤ limit
    → number_up_to limit (decimal n) ≡ Some n
number-read limit n small most =
    let test : nat_le n limit ≡ true = grind (arith, nat_tests, most) in
    rw (number_in-of_decimal n small, test) refl

-- digits are no number behind a minus
bare : (ds : List ℕ) (n : ℕ) → 0 < length ds → AllDigits 10 ds → number_in ds ≡ Some n
    → numbers.integer_of_word ds ≡ Some (pos n)
bare [] n some digits e = absurd (omega (arith, some))
bare (c ∷ cs) n some digits e =
    let k = digit_from_value c digits.0 in
    let low : 48 ≤ c = omega (arith, k) in
    let other : (c == 45) ≡ false = grind (arith, nat_tests, low) in
    rw (other, e) refl

low_enough : (n : ℕ) → n < 2 ^ 63
    → (int_le (negsuc (2 ^ 63 - 1)) (pos n) && int_le (pos n) (pos (2 ^ 63 - 1))) ≡ true
low_enough n h = grind (arith, nat_tests)

high_enough : (n : ℕ) → n < 2 ^ 63
    → (int_le (negsuc (2 ^ 63 - 1)) (negsuc n) && int_le (negsuc n) (pos (2 ^ 63 - 1))) ≡ true
high_enough n h = grind (arith, nat_tests)

pub integer-read : (z : ℤ) → FitsSigned w64 z
    → numbers.integer_word_within (negsuc (2 ^ 63 - 1)) (pos (2 ^ 63 - 1)) (signed_decimal z) ≡ Some z
integer-read (pos n) fits =
    let wide : n < 2 ^ 64 = omega (arith, fits) in
    let numeral = decimal_is_IsNumeral n wide in
    rw (
      bare (decimal n) n numeral.0.0 numeral.0.1 (number_in-of_decimal n wide),
      low_enough n (omega (arith, fits)),
    ) refl
integer-read (negsuc n) fits =
    let wide : suc n < 2 ^ 64 = omega (arith, fits) in
    rw (number_in-of_decimal (suc n) wide, high_enough n (omega (arith, fits))) refl

no_point : (ds : List ℕ) → AllDigits 10 ds → list_all (λ c. not (c == 46)) ds ≡ true
no_point [] d = refl
no_point (c ∷ cs) d =
    let k = digit_from_value c d.0 in
    let low : 48 ≤ c = omega (arith, k) in
    let other : not (c == 46) ≡ true = grind (arith, nat_tests, low) in
    rw (other, no_point cs d.1) refl

fits-test : (b : Bits) → IsBits b → own.is_bits b ≡ true
fits-test b fits = grind (arith, nat_tests, fits.fitting, fits.padded)

parts-read : (n : ℕ) (os : List ℕ) → n < 2 ^ 64 → AreOctets os
    → own.is_bits (record { count = n; octets = os }) ≡ true
    → own.bits_word_in (decimal n ++ 46 ∷ hex_text os) ≡ Some (bits (record { count = n; octets = os }))
parts-read n os small e fits =
    rw (
      position-append (λ c. c == 46) (decimal n) 46 (hex_text os)
          (no_point (decimal n) (decimal_is_IsNumeral n small).0.1) refl,
      take-append_seam (decimal n) (46 ∷ hex_text os),
      drop-append-add (decimal n) (46 ∷ hex_text os) 1,
      number-read (2 ^ 64 - 1) n small (omega (arith, small)),
      hex_in-hex_text os e,
      fits,
    ) refl

bits-read : (b : Bits) → IsBits b → b.count < 2 ^ 64
    → own.word_value (data_text (bits b)) ≡ Some (bits b)
bits-read b fits small =
    ap own.bits_word_in (append_assoc (decimal b.count) (46 ∷ []) (hex_text b.octets))
    ∙ parts-read b.count b.octets small fits.in_octets (fits-test b fits)

visible-test : (os : List ℕ) → IsVisible os → own.is_visible os ≡ true
visible-test os v =
    let few : nat_le (length os) VISIBLE_LIMIT ≡ true = grind (arith, nat_tests, v.0) in
    rw (few, v.1) refl

four : (os : List ℕ) → length os ≡ 4 → (length os == 4) ≡ true
four os e = rw e refl

pub leaf_stands : (d : Datum) → IsLeaf d → IsTextual d → own.word_value (data_text d) ≡ Some d
leaf_stands (structure ds) leaf t = absurd leaf
leaf_stands (array ds) leaf t = absurd leaf
leaf_stands (boolean true) leaf t = refl
leaf_stands (boolean false) leaf t = refl
leaf_stands (integer z) leaf t = ap (option_map integer) (integer-read z t)
leaf_stands (unsigned n) leaf t =
    ap (option_map unsigned) (number-read (2 ^ 63 - 1) n (omega (arith, t)) (omega (arith, t)))
leaf_stands (bits b) leaf t = bits-read b t.0 t.1
leaf_stands (real o) leaf t = rw (hex_in-hex_text o t.1, four o t.0) refl
leaf_stands (octets o) leaf t = ap (option_map octets) (hex_in-hex_text o t)
leaf_stands (text o) leaf t =
    rw (unescaped-escaped_text o (octets_from_visible o t.1), visible-test o t) refl
