-- The digits of a number in base 128.
use Rattle.std.proofs.Common.{◌≡◌, ℕ, ◌+◌, ◌/◌, ◌%◌, ◌^◌, ◌<◌, ◌≤◌, [], ◌∷◌, ◌++◌, length, map, ap}
use Rattle.std.proofs.Common.{◌∙◌, arith, length-append}
use Rattle.std.specs.Int.Digits.{digits_of}
use Rattle.std.proofs.lemmas.Int.Digits.{digits_of_step, length-digits_of-le}
use Rattle.std.proofs.lemmas.List.{map-append, length-map}
use Rattle.ber_values.specs.Dotted.{base_128}

-- the last digit of those before the last
pub marked_digits-step : (n : ℕ) → 0 < n
    → map (λ digit. 128 + digit) (digits_of 128 n)
    ≡ map (λ digit. 128 + digit) (digits_of 128 (n / 128)) ++ (128 + n % 128) ∷ []
marked_digits-step n positive =
    ap (map (λ digit. 128 + digit)) (digits_of_step 128 n (omega arith) positive)
    ∙ map-append (λ digit. 128 + digit) (digits_of 128 (n / 128)) (n % 128 ∷ [])

-- a number of 32 bits takes at most five digits
pub length-base_128-le : (n : ℕ) → n < 2 ^ 32 → length (base_128 n) ≤ 5
length-base_128-le n fits =
    let front : length (digits_of 128 (n / 128)) ≤ 4 = length-digits_of-le 128 4 (n / 128)
    (omega arith) (omega arith) in
    omega (
      arith,
      length-append (map (λ digit. 128 + digit) (digits_of 128 (n / 128)))
          (n % 128 ∷ []),
      length-map (digits_of 128 (n / 128)) (λ digit. 128 + digit),
    )
