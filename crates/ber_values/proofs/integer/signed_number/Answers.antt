use Rattle.std.proofs.Common.{◌+◌, ◌-◌, ◌*◌, ◌/◌, ◌^◌, ◌≤◌, ◌<◌, ◌≡◌, ◌∙◌, sym, get_or, length, arith}
use Rattle.std.proofs.lemmas.Int.{ints}
use Rattle.std.proofs.lemmas.Bool.{lt-ltb, le-ltb}
use Rattle.ber_values.specs.Octets.{number_of}
use Rattle.ber_values.proofs.Octets.{FirstBounds, first_bounds, ones_shifted, unit_bound, mul_le, number_of-below}
use Rattle.ber_values.proofs.Signed.{below_zero, pos_less}
use Rattle.ber_values.proofs.integer.signed_number.Goals as goal

pub overflow_cast-result : goal.overflow_cast-result
overflow_cast-result c =
    let s = c.args.octets.now in
    let b : FirstBounds s = first_bounds s (λ i. omega (arith, c.type_inv.octets i)) c.requires.some in
    let u : b.unit ≤ 2 ^ 56 = omega (arith, unit_bound s c.requires.few) in
    let m : (get_or s 0 0 + 1) * b.unit ≤ 128 * b.unit = mul_le b.unit (omega arith) in
    omega (arith, ints)

pub overflow_sub-below-else-octets-lt128 : goal.overflow_sub-below-else-octets-lt128
overflow_sub-below-else-octets-lt128 c =
    let s = c.args.octets.now in
    let below = number_of-below s (λ i. omega (arith, c.type_inv.octets i)) in
    omega (arith, ones_shifted (length s) c.requires.some c.requires.few)

pub overflow_cast-result-else-octets-lt128 : goal.overflow_cast-result-else-octets-lt128
overflow_cast-result-else-octets-lt128 c =
    let s = c.args.octets.now in
    let b : FirstBounds s = first_bounds s (λ i. omega (arith, c.type_inv.octets i)) c.requires.some in
    let u : b.unit ≤ 2 ^ 56 = omega (arith, unit_bound s c.requires.few) in
    let m : 128 * b.unit ≤ get_or s 0 0 * b.unit = mul_le b.unit (omega arith) in
    omega (arith, ints, ones_shifted (length s) c.requires.some c.requires.few)

pub returns-then-octets-lt128 : goal.returns-then-octets-lt128
returns-then-octets-lt128 c =
    let s = c.args.octets.now in
    let b : FirstBounds s = first_bounds s (λ i. omega (arith, c.type_inv.octets i)) c.requires.some in
    let u : b.unit ≤ 2 ^ 56 = omega (arith, unit_bound s c.requires.few) in
    let m : (get_or s 0 0 + 1) * b.unit ≤ 128 * b.unit = mul_le b.unit (omega arith) in
    rw (lt-ltb (get_or s 0 0) 128 (omega arith)) (omega (arith, ints))

pub returns-else-octets-lt128 : goal.returns-else-octets-lt128
returns-else-octets-lt128 c =
    let s = c.args.octets.now in
    let b : FirstBounds s = first_bounds s (λ i. omega (arith, c.type_inv.octets i)) c.requires.some in
    let u : b.unit ≤ 2 ^ 56 = omega (arith, unit_bound s c.requires.few) in
    let m : 128 * b.unit ≤ get_or s 0 0 * b.unit = mul_le b.unit (omega arith) in
    let n = c.unsigned_number-number.result in
    let below = 18446744073709551615 / 2 ^ (64 - 8 * length s) - n in
    let lt : below < 2 ^ 63 = omega (arith, ones_shifted (length s) c.requires.some c.requires.few) in
    let fits : number_of s < 2 ^ (8 * length s) = number_of-below s (λ i. omega (arith, c.type_inv.octets i)) in
    let whole : number_of s + below + 1 ≡ 2 ^ (8 * length s) = omega (arith, ones_shifted (length s) c.requires.some c.requires.few) in
    rw (le-ltb (get_or s 0 0) 128 (omega arith)) (below_zero below lt ∙ sym (pos_less (number_of s) below (2 ^ (8 * length s)) whole))
