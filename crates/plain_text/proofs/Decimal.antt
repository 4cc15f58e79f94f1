-- Decimal numbers: no number is below its front, and a word is a number just where it is one's
-- decimal text.
use Rattle.std.proofs.Common.{◌≡◌, ℕ, zero, suc, ◌+◌, ◌-◌, ◌*◌, ℤ, int_le, ◌^◌, ◌<◌, ◌≤◌, Bool}
use Rattle.std.proofs.Common.{true, false, List, [], ◌∷◌, length, drop, get_or, Option, Some, None}
use Rattle.std.proofs.Common.{◌↔◌, ◌&&◌, cond, leb, decimal, refl, sym, ap, ◌∙◌, inl, inr, arith}
use Rattle.std.specs.Option.{option_and_then}
use Rattle.std.specs.Str.{all_ascii_digits}
use Rattle.std.specs.Str.Parse.{digits_value, digits_value_after}
use Rattle.std.specs.Char.{digit_value}
use Rattle.std.proofs.lemmas.List.{at_drop_more}
use Rattle.std.proofs.lemmas.Grind.{common_steps}
use Rattle.std.proofs.lemmas.Bool.{and_parts, cases_Bool, cond-true}
use Rattle.std.proofs.lemmas.Bool.Decides.{nat_tests}
use Rattle.std.proofs.lemmas.Fmt.{decimal-digits_value, decimal_is_IsNumeral, first_decimal}
use Rattle.std.proofs.lemmas.Fmt.{decimal_digit}
use Rattle.std.proofs.lemmas.Str.Parse.{IsNumeralModel, numerals_by_value, tells_all_ascii_digits}
use Rattle.plain_text.specs.Numbers.{is_number, number_in, number_up_to, negative, if_passes}
use Rattle.plain_text.specs.Numbers.{integer_word_within}

-- further digits make no number smaller
pub digits_value_after-ge : (n : ℕ) (digits : List ℕ) → n ≤ digits_value_after 10 n digits
digits_value_after-ge n [] = omega arith
digits_value_after-ge n (d ∷ ds) = omega (arith, digits_value_after-ge (n * 10 + digit_value d) ds)

number_up_to-above : (limit : ℕ) (word : List ℕ) → limit < digits_value 10 word
    → number_up_to limit word ≡ None
number_up_to-above limit word above =
    elim (cases_Bool (is_number word))
    [ inl is ↦ grind (arith, nat_tests) | inr not ↦ grind (arith, nat_tests) ]

-- a word whose number so far is past the limit
pub number_up_to-past : (limit n : ℕ) (word rest : List ℕ)
    → digits_value_after 10 n rest ≡ digits_value 10 word → limit < n
    → number_up_to limit word ≡ None
number_up_to-past limit n word rest same past =
    let value : n ≤ digits_value_after 10 n rest = digits_value_after-ge n rest in
    number_up_to-above limit word (omega arith)

-- the next digit takes the number past the limit
pub number_up_to-next : (limit n : ℕ) (word : List ℕ) (i : ℕ) → i < length word
    → digits_value_after 10 n (drop i word) ≡ digits_value 10 word
    → limit < n * 10 + digit_value (get_or word i 0) → number_up_to limit word ≡ None
number_up_to-next limit n word i below same past =
    number_up_to-past limit (n * 10 + digit_value (get_or word i 0)) word (drop (i + 1) word)
    (sym (at_drop_more (digits_value_after 10 n) word i 0 below) ∙ same) past

own : IsNumeralModel (λ ds. all_ascii_digits ds ≡ true) (digits_value 10)
own = numerals_by_value (λ ds. all_ascii_digits ds ≡ true) tells_all_ascii_digits

-- what `is_number` tells: digits, some, and no leading zero
is_number-parts : (word : List ℕ) → is_number word ≡ true
    → (all_ascii_digits word ≡ true) × (0 < length word) × (get_or word 0 0 ≡ 48 → length word ≡ 1)
is_number-parts [] digits = absurd cc
is_number-parts (digit ∷ []) digits = (grind (arith, common_steps), omega arith, λ _. refl)
is_number-parts (first ∷ next ∷ more) digits = grind (arith, nat_tests, and_parts)

is_number-from_parts : (word : List ℕ) → all_ascii_digits word ≡ true → 0 < length word
    → (get_or word 0 0 ≡ 48 → length word ≡ 1) → is_number word ≡ true
is_number-from_parts [] digits some bare = absurd (omega arith)
is_number-from_parts (digit ∷ []) digits some bare = grind (arith, nat_tests, and_parts)
is_number-from_parts (first ∷ next ∷ more) digits some bare = grind (arith, nat_tests, and_parts)

-- the value of a decimal digit
pub digit_value-decimal : (digit : ℕ) → 48 ≤ digit → digit ≤ 57 → digit_value digit ≡ digit - 48
digit_value-decimal digit low high = grind (arith, nat_tests)

number_in-some : (word : List ℕ) (n : ℕ) (is : Bool) → is_number word ≡ is
    → cond is (Some (digits_value 10 word)) None ≡ Some n → n < 2 ^ 64 → word ≡ decimal n
number_in-some word n false test same fits = absurd cc
number_in-some word n true test same fits =
    let value : digits_value 10 word ≡ n = cc in
    let parts = is_number-parts word test in
    sym (decimal-digits_value own word parts.0 parts.1 parts.2 (omega arith)) ∙ ap decimal value

decimal-bare : (n : ℕ) → n < 2 ^ 64 → get_or (decimal n) 0 0 ≡ 48 → length (decimal n) ≡ 1
decimal-bare zero fits same = ap length (decimal_digit 0 (omega arith))
decimal-bare (suc n) fits same = absurd (omega (arith, first_decimal (suc n) (omega arith) fits))

-- the decimal text of a number is that number
pub number_in-of_decimal : (n : ℕ) → n < 2 ^ 64 → number_in (decimal n) ≡ Some n
number_in-of_decimal n fits =
    let numeral = decimal_is_IsNumeral n fits in
    let is = is_number-from_parts (decimal n) (own.from (decimal n) numeral.0.1) numeral.0.0
    (decimal-bare n fits) in
    cond-true (is_number (decimal n)) (Some (digits_value 10 (decimal n))) None is
    ∙ ap Some numeral.1

-- a word is a number just where it is that number's decimal text
pub number_in-decimal : (word : List ℕ) (n : ℕ) → n < 2 ^ 64
    → (number_in word ≡ Some n) ↔ (word ≡ decimal n)
number_in-decimal word n fits = (
  λ same. number_in-some word n (is_number word) refl same fits,
  λ same. ap number_in same
      ∙ number_in-of_decimal n fits,
)

passes-some : (m n : ℕ) (test : Bool) → cond test (Some m) None ≡ Some n → Some m ≡ Some n
passes-some m n true same = same
passes-some m n false same = absurd cc

in_from_up_to : (limit n : ℕ) (number : Option ℕ)
    → option_and_then (if_passes (λ m. leb m limit)) number ≡ Some n → number ≡ Some n
in_from_up_to limit n None same = absurd cc
in_from_up_to limit n (Some m) same = passes-some m n (leb m limit) same

-- a word that is a number up to a limit is that number
pub number_in-from_up_to : (limit n : ℕ) (word : List ℕ) → number_up_to limit word ≡ Some n
    → number_in word ≡ Some n
number_in-from_up_to limit n word same = in_from_up_to limit n (number_in word) same

within-minus : (low high : ℤ) (word : List ℕ) (n : ℕ) (z : ℤ) → number_in word ≡ Some n
    → negative n ≡ Some z
    → integer_word_within low high (45 ∷ word) ≡ if_passes (λ y. int_le low y && int_le y high) z
within-minus low high word n z number value =
    ap (λ o. option_and_then (if_passes (λ y. int_le low y && int_le y high))
    (option_and_then negative o)) number
    ∙ ap (option_and_then (if_passes (λ y. int_le low y && int_le y high))) value

-- a number behind a minus
pub integer_within-minus : (low high : ℤ) (word digits : List ℕ) (n : ℕ) (z : ℤ) → 1 ≤ length word
    → get_or word 0 0 ≡ 45 → digits ≡ drop 1 word → number_up_to (2 ^ 63) digits ≡ Some n
    → negative n ≡ Some z
    → integer_word_within low high word ≡ if_passes (λ y. int_le low y && int_le y high) z
integer_within-minus low high [] digits n z some first rest size value = absurd (omega arith)
integer_within-minus low high (c ∷ word) digits n z some first rest size value =
    ap (λ d. integer_word_within low high (d ∷ word)) first
    ∙ within-minus low high word n z
    (number_in-from_up_to (2 ^ 63) n word (ap (number_up_to (2 ^ 63)) (sym rest) ∙ size)) value
