-- The octets of words and names: each stands for itself in escaped text, or is `%`.
use Rattle.std.proofs.Common.{◌≡◌, ℕ, suc, ◌/◌, ◌%◌, ◌^◌, ◌<◌, ◌≤◌, ◌==◌, ◌||◌, Bool, true, false}
use Rattle.std.proofs.Common.{List, [], ◌∷◌, ◌++◌, ℤ, pos, negsuc, decimal, refl, arith}
use Rattle.std.specs.Fmt.{signed_decimal}
use Rattle.std.specs.List.{list_all}
use Rattle.std.specs.Str.Parse.{AllDigits}
use Rattle.std.specs.Int.{w64}
use Rattle.std.specs.Int.RustNames.{FitsSigned}
use Rattle.std.proofs.lemmas.Bool.{and_parts}
use Rattle.std.proofs.lemmas.Bool.Decides.{nat_tests}
use Rattle.std.proofs.lemmas.Fmt.{decimal_is_IsNumeral}
use Rattle.std.proofs.lemmas.List.Folds.{list_all-append}
use Rattle.std.proofs.lemmas.Str.Parse.{digit_from_value}
use Rattle.plain_text.specs.Octets.{hex_digit, hex_text}
use Rattle.plain_text.specs.Escaped.{is_octet, is_plain, escaped_octet, escaped_text}

-- an octet that stands for itself, or `%`
abbrev pub is_word_octet : ℕ → Bool
is_word_octet c = is_plain c || (c == 37)

abbrev pub AreWordOctets : List ℕ → Type 0
AreWordOctets os = list_all is_word_octet os ≡ true

-- what holds of each octet that may stand in a word holds of all of a word
pub each_passes : (test : ℕ → Bool) → ((c : ℕ) → is_word_octet c ≡ true → test c ≡ true)
    → (os : List ℕ) → AreWordOctets os → list_all test os ≡ true
each_passes test passes [] e = refl
each_passes test passes (c ∷ os) e =
    let parts = and_parts (is_word_octet c) _ e in
    rw (passes c parts.0, each_passes test passes os parts.1) refl

pub both_words : (xs ys : List ℕ) → AreWordOctets xs → AreWordOctets ys → AreWordOctets (xs ++ ys)
both_words xs ys h k = rw (list_all-append is_word_octet xs ys, h, k) refl

digit_octet : (c : ℕ) → 48 ≤ c → c ≤ 57 → is_word_octet c ≡ true
digit_octet c low high = grind (arith, nat_tests)

digits_octets : (ds : List ℕ) → AllDigits 10 ds → AreWordOctets ds
digits_octets [] d = refl
digits_octets (c ∷ cs) d =
    let k = digit_from_value c d.0 in
    rw (digit_octet c (omega (arith, k)) (omega (arith, k)), digits_octets cs d.1) refl

pub decimal_octets : (n : ℕ) → n < 2 ^ 64 → AreWordOctets (decimal n)
decimal_octets n small = digits_octets (decimal n) (decimal_is_IsNumeral n small).0.1

pub signed_octets : (z : ℤ) → FitsSigned w64 z → AreWordOctets (signed_decimal z)
signed_octets (pos n) fits = decimal_octets n (omega (arith, fits))
signed_octets (negsuc n) fits = decimal_octets (suc n) (omega (arith, fits))

hex_digit_octet : (value : ℕ) → value < 16 → is_word_octet (hex_digit value) ≡ true
hex_digit_octet value small = grind (arith, nat_tests)

pub small_octet : (octet : ℕ) → is_octet octet ≡ true → octet < 256
small_octet octet e = grind (arith, nat_tests)

pub hex_octets : (os : List ℕ) → list_all is_octet os ≡ true → AreWordOctets (hex_text os)
hex_octets [] e = refl
hex_octets (octet ∷ os) e =
    let parts = and_parts (is_octet octet) _ e in
    let small : octet < 256 = small_octet octet parts.0 in
    rw (
      hex_digit_octet (octet / 16) (omega (arith, small)),
      hex_digit_octet (octet % 16) (omega (arith, small)),
      hex_octets os parts.1,
    ) refl

plain_octet : (octet : ℕ) → is_plain octet ≡ true → is_word_octet octet ≡ true
plain_octet octet e = rw e refl

one_escaped : (octet : ℕ) (plain : Bool) → is_plain octet ≡ plain → octet < 256
    → AreWordOctets (escaped_octet octet)
one_escaped octet true e h = rw (e, plain_octet octet e) refl
one_escaped octet false e h =
    rw (
      e,
      hex_digit_octet (octet / 16) (omega (arith, h)),
      hex_digit_octet (octet % 16) (omega (arith, h)),
    ) refl

pub escaped_octets : (os : List ℕ) → list_all is_octet os ≡ true → AreWordOctets (escaped_text os)
escaped_octets [] e = refl
escaped_octets (octet ∷ os) e =
    let parts = and_parts (is_octet octet) _ e in
    both_words (escaped_octet octet) (escaped_text os)
    (one_escaped octet _ refl (small_octet octet parts.0)) (escaped_octets os parts.1)
