-- The first moments at which conditions hold.
use Rattle.std.proofs.Common.{◌≡◌, ℕ, suc, ◌+◌, ◌-◌, ◌*◌, ◌/◌, ◌<◌, ◌≤◌, ◌⊎◌, nat_lt, nat_le}
use Rattle.std.proofs.Common.{Bool, true, false, Option, Some, None, inl, inr, refl, arith}
use Rattle.std.proofs.Math.Nat.{le-div_iff_mul-le, lt-div-mul-add}
use Rattle.std.proofs.Math.Nat.{mul-le-mul_right, one-le-mul, suc-mul}
use Rattle.std.proofs.lemmas.Bool.{cases_lt}
use Rattle.std.proofs.lemmas.Bool.Decides.{nat_tests}
use Rattle.transfer_sets.specs.Due.{PassesMultiple, HasWaited}
use Rattle.transfer_sets.specs.NextDue.{HoldsNever, IsFirstMoment, earlier, below_limit}

-- what comes to hold at a moment, and at none before
pub first_at : (P : ℕ → Type 0) (from to : ℕ) → from < to → P to → HoldsNever P from to
    → IsFirstMoment P from (below_limit to)
first_at P from to above holds never = by (nat_lt to 2147483648000) refl
  where
    by : (b : Bool) → nat_lt to 2147483648000 ≡ b → IsFirstMoment P from (below_limit to)
    by true e = rw e (above, grind (arith, nat_tests), holds, never)
    by false e =
        let past : 2147483648000 ≤ to = grind (arith, nat_tests) in
        rw e (λ moment low high h. never moment low (omega (arith, high, past)) h)

-- two things of which each holds at no moment before an end of its own
neither : (P Q : ℕ → Type 0) (from p q end : ℕ) → end ≤ p → end ≤ q → HoldsNever P from p
    → HoldsNever Q from q → HoldsNever (λ m. P m ⊎ Q m) from end
neither P Q from p q end to_p to_q not_p not_q = λ moment low high h. elim h [
  | inl x ↦ not_p moment low (omega (arith, high, to_p)) x
  | inr y ↦ not_q moment low (omega (arith, high, to_q)) y
]

-- one of two things holds first at the earlier of their first moments
pub first_of_two : (P Q : ℕ → Type 0) (from : ℕ) (a b : Option ℕ) → IsFirstMoment P from a
    → IsFirstMoment Q from b → IsFirstMoment (λ m. P m ⊎ Q m) from (earlier a b)
first_of_two P Q from None None p q =
    neither P Q from 2147483648000 2147483648000 2147483648000 (omega arith) (omega arith) p q
first_of_two P Q from None (Some b) p q = (
  q.0,
  q.1,
  inr q.2,
  neither P Q from 2147483648000 b b (let low = q.1 in omega arith) (omega arith) p q.3,
)
first_of_two P Q from (Some a) None p q = (
  p.0,
  p.1,
  inl p.2,
  neither P Q from a 2147483648000 a (omega arith) (let low = p.1 in omega arith) p.3 q,
)
first_of_two P Q from (Some a) (Some b) p q = by (nat_le a b) refl
  where
    by : (t : Bool) → nat_le a b ≡ t
        → IsFirstMoment (λ m. P m ⊎ Q m) from (earlier (Some a) (Some b))
    by true e =
        let le : a ≤ b = grind (arith, nat_tests) in
        rw e (p.0, p.1, inl p.2, neither P Q from a b a (omega arith) le p.3 q.3)
    by false e =
        let le : b ≤ a = grind (arith, nat_tests) in
        rw e (q.0, q.1, inr q.2, neither P Q from a b b le (omega arith) p.3 q.3)

-- what holds at the same moments holds first at the same
pub first_as : (P Q : ℕ → Type 0) (from : ℕ) (next : Option ℕ) → ((m : ℕ) → P m → Q m)
    → ((m : ℕ) → Q m → P m) → IsFirstMoment P from next → IsFirstMoment Q from next
first_as P Q from None f g p = λ moment low high h. p moment low high (g moment h)
first_as P Q from (Some to) f g p =
    (p.0, p.1, f to p.2, λ moment low high h. p.3 moment low high (g moment h))

-- the first multiple that isn't passed yet
not_passed : (base period from k : ℕ) → 0 < period → 1 ≤ k → from < base + k * period
    → k ≤ (from - base) / period → ⊥
not_passed base period from k some one above le =
    let below = (le-div_iff_mul-le {k = period} {x = k} {y = from - base} some).0 le in
    let positive = one-le-mul one some in omega (arith, below, positive, above)

no_earlier : (base period from k moment : ℕ) → 0 < period → 1 ≤ k → from < base + k * period
    → base + k * period ≤ moment
    → moment < base + (from - base) / period * period + period → ⊥
no_earlier base period from k moment some one above passed before =
    elim (cases_lt ((from - base) / period) k) [
      | inl more ↦ (let least = mul-le-mul_right period (next k more) in
          let sum = suc-mul ((from - base) / period) period in
          omega (arith, least, sum, passed, before))
      | inr le ↦ not_passed base period from k some one above le
    ]
  where
    next : (k : ℕ) → (from - base) / period < k → suc ((from - base) / period) ≤ k
    next k more = omega (arith, more)

pub next_passed : (base period from : ℕ) → 0 < period
    → IsFirstMoment (PassesMultiple base period from) from
    (below_limit (base + (from - base) / period * period + period))
next_passed base period from some =
    let q = (from - base) / period in
    let past = lt-div-mul-add {a = from - base} some in
    let sum = suc-mul q period in
    let above : from < base + q * period + period = omega (arith, past) in
    first_at (PassesMultiple base period from) from (base + q * period + period) above (
      suc q,
      omega arith,
      omega (arith, sum, above),
      omega (arith, sum),
    ) (λ moment low high p. no_earlier base period from p.0 moment some p.1 p.2 p.3 high)

-- a change that has waited long is told at the next moment
pub has_waited_long : (first buffer from : ℕ) → first + buffer ≤ from
    → IsFirstMoment (HasWaited (Some first) buffer) from (below_limit (from + 1))
has_waited_long first buffer from le =
    first_at (HasWaited (Some first) buffer) from (from + 1) (omega arith)
    (first, refl, omega (arith, le)) (λ moment low high p. absurd (omega (arith, low, high)))
