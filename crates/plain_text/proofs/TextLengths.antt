-- Lengths of numbers and of hexadecimal text.
use Rattle.std.proofs.Common.{◌≡◌, ℕ, ◌+◌, ◌*◌, ◌/◌, ◌%◌, ◌^◌, ◌≤◌, ◌<◌, List, []}
use Rattle.std.proofs.Common.{◌∷◌, length, refl, ap, ◌∙◌, arith}
use Rattle.std.specs.Prelude.{decimal}
use Rattle.std.proofs.lemmas.List.{length-append}
use Rattle.std.proofs.lemmas.Fmt.{decimal_step, decimal_digit, length-decimal-le}
use Rattle.std.proofs.lemmas.Fmt.{decimal_nonempty}
use Rattle.plain_text.specs.Octets.{hex_text, hex_pair}

pub length-decimal-step : (n : ℕ) → 10 ≤ n → n < 2 ^ 64
    → length (decimal n) ≡ length (decimal (n / 10)) + 1
length-decimal-step n le small =
    ap length (decimal_step n le small)
    ∙ length-append (decimal (n / 10)) ((48 + n % 10) ∷ [])

pub length-decimal-digit : (n : ℕ) → n < 10 → length (decimal n) ≡ 1
length-decimal-digit n small = ap length (decimal_digit n small)

pub length-decimal-few : (n : ℕ) → n < 2 ^ 64 → length (decimal n) ≤ 20
length-decimal-few n small = length-decimal-le 20 n (omega arith) (omega arith) small

pub length-decimal-some : (n : ℕ) → n < 2 ^ 64 → 0 < length (decimal n)
length-decimal-some n small = decimal_nonempty n small

pub length-hex_text : (os : List ℕ) → length (hex_text os) ≡ 2 * length os
length-hex_text [] = refl
length-hex_text (o ∷ os) = omega (
  arith,
  length-hex_text os,
  length-append (hex_pair o)
      (hex_text os),
)
