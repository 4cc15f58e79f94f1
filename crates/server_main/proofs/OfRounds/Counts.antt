-- Counts that rise by one so often.
use Rattle.std.proofs.Common.{◌≡◌, ℕ, zero, suc, ◌+◌, ◌-◌, ◌^◌, ◌<◌, ◌≤◌, ap, ◌∙◌, arith}
use Rattle.outside.specs.Faults.{next_count}
use Rattle.server_main.specs.Rounds.Rounds.{counted_up}

next_below : (count : ℕ) → next_count count < 2 ^ 64 - 1
    → (count < 2 ^ 64 - 1) × (count + 1 ≤ next_count count)
next_below count below = (omega (arith, below), omega (arith, below))

-- below the type's end it rose each time
pub up_below : (often count : ℕ) → counted_up often count < 2 ^ 64 - 1
    → count + often ≤ counted_up often count
up_below zero count below = omega arith
up_below (suc often) count below =
    let one = next_below (counted_up often count) below in
    let rest : count + often ≤ counted_up often count = up_below often count one.0 in
    let more : counted_up often count + 1 ≤ counted_up (suc often) count = one.1 in
    omega (arith, rest, more)

pub up_then : (first then count : ℕ)
    → counted_up then (counted_up first count) ≡ counted_up (first + then) count
up_then first zero count = ap (λ (n : ℕ). counted_up n count) (omega arith)
up_then first (suc then) count =
    ap next_count (up_then first then count)
    ∙ ap (λ (n : ℕ). counted_up n count) {x = suc (first + then)} {y = first + suc then}
    (omega arith)
