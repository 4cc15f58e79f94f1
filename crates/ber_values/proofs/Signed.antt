-- Numbers in two's complement.
use Rattle.std.proofs.Common.{◌≡◌, ℕ, ◌+◌, ◌^◌, ◌<◌, ℤ, pos, negsuc, ◌-ℤ◌, ap, ◌∙◌, arith}
use Rattle.std.specs.Int.{w64}
use Rattle.std.specs.Int.RustNames.{FitsSigned}
use mir.Val.{to_z, of_z}
use Rattle.std.proofs.lemmas.Int.{ints, to_z-of_z, to_z_pos}

pub pos_less : (n below whole : ℕ) → n + below + 1 ≡ whole → pos n -ℤ pos whole ≡ negsuc below
pos_less n below whole e = omega (arith, ints)

minus_one_less : (b : ℕ) → negsuc 0 -ℤ pos b ≡ negsuc b
minus_one_less b = omega (arith, ints)

fits_below : (b : ℕ) → b < 2 ^ 63 → FitsSigned w64 (negsuc b)
fits_below b lt = omega (arith, ints)

-- what -1 less b is, in 64 bits
pub below_zero : (b : ℕ) → b < 2 ^ 63 → to_z w64 (of_z w64 (negsuc 0 -ℤ to_z w64 b)) ≡ negsuc b
below_zero b lt = ap (λ (z : ℤ). to_z w64 (of_z w64 (negsuc 0 -ℤ z))) (to_z_pos w64 b lt) ∙ ap (λ (z : ℤ). to_z w64 (of_z w64 z)) (minus_one_less b) ∙ to_z-of_z w64 (negsuc b) (fits_below b lt)
