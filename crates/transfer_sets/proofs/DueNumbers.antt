-- The conditions that are due are one number.
use Rattle.std.proofs.Common.{◌≡◌, ◌↔◌, ℕ, ◌+◌, ◌-◌, ◌*◌, ◌/◌, ◌%◌, ◌==◌, ◌<◌, ◌≤◌, nat_lt, nat_le}
use Rattle.std.proofs.Common.{Bool, true, false, ◌&&◌, ◌||◌, Option, Some, None, length, Decides}
use Rattle.std.proofs.Common.{refl, sym, subst, arith}
use Rattle.std.proofs.Math.Nat.{le-div_iff_mul-le}
use Rattle.std.proofs.lemmas.Bool.Decides.{Decides-eqb, Decides-and, Decides-or}
use Rattle.std.proofs.lemmas.Bool.Decides.{nat_tests}
use Rattle.transfer_sets.specs.Wishes.{HasCondition, has}
use Rattle.transfer_sets.specs.SlotState.{SlotState}
use Rattle.transfer_sets.specs.Due.{PassesMultiple, HasWaited, IsFull, AreDue}
use Rattle.transfer_sets.specs.Due.{passes_multiple, has_waited, is_full}
use Rattle.transfer_sets.specs.Due.{milliseconds, sum_of, conditions_due}

same_bit : (a b : ℕ) → (a % 2 ≡ 1 → b % 2 ≡ 1) → (b % 2 ≡ 1 → a % 2 ≡ 1) → a % 2 ≡ b % 2
same_bit a b f g = grind arith

-- what two numbers that have the same conditions are
same_conditions : (a b : ℕ)
    → (HasCondition a 128 → HasCondition b 128) → (HasCondition b 128 → HasCondition a 128)
    → (HasCondition a 64 → HasCondition b 64) → (HasCondition b 64 → HasCondition a 64)
    → (HasCondition a 32 → HasCondition b 32) → (HasCondition b 32 → HasCondition a 32)
    → a % 32 ≡ 0 → b % 32 ≡ 0 → a < 256 → b < 256 → a ≡ b
same_conditions a b f g h i j k p q r s =
    let x = same_bit (a / 128) (b / 128) f g in
    let y = same_bit (a / 64) (b / 64) h i in
    let z = same_bit (a / 32) (b / 32) j k in omega arith

pub one_number : (s : SlotState) (from to a b : ℕ) → AreDue s from to a → AreDue s from to b
    → a ≡ b
one_number s from to a b x y =
    same_conditions a b (λ h. y.interval.1 (x.interval.0 h)) (λ h. x.interval.1 (y.interval.0 h))
    (λ h. y.integrity.1 (x.integrity.0 h)) (λ h. x.integrity.1 (y.integrity.0 h))
    (λ h. y.change.1 (x.change.0 h)) (λ h. x.change.1 (y.change.0 h)) x.no_others.0 y.no_others.0
    x.no_others.1 y.no_others.1

-- a multiple is passed where there are more of them
more_multiples : (base period from to : ℕ) → 0 < period
    → Decides (nat_lt ((from - base) / period) ((to - base) / period))
    (PassesMultiple base period from to)
more_multiples base period from to some = (
  λ e. (let more : (from - base) / period < (to - base) / period = grind (arith, nat_tests) in
      let k = (to - base) / period in
      let below = (le-div_iff_mul-le {k = period} {x = k} {y = to - base} some).0 (omega arith) in
      let above = (le-div_iff_mul-le {k = period} {x = k} {y = from - base} some).1 in
      let one = (le-div_iff_mul-le {k = period} {x = 1} {y = to - base} some).0 (omega arith) in (
        k,
        omega arith,
        later base (k * period) from (λ h. (let low = above h in omega arith)),
        omega arith,
      )),
  λ p. (let below = (le-div_iff_mul-le {k = period} {x = p.0} {y = to - base} some).1
      (let end = p.3 in omega arith) in
      let above = (le-div_iff_mul-le {k = period} {x = p.0} {y = from - base} some).0 in
      let one = (le-div_iff_mul-le {k = period} {x = 1} {y = from - base} some).0 in
      fewer (from - base) period (to - base) p.0 below
      (λ low. let h = above low in
      let first = one (let at_least = p.1 in omega arith) in
      let begin = p.2 in omega arith)),
)
  where
    later : (base m from : ℕ) → (m ≤ from - base → ⊥) → from < base + m
    later base m from never = grind arith

    fewer : (a p b k : ℕ) → k ≤ b / p → (k ≤ a / p → ⊥) → nat_lt (a / p) (b / p) ≡ true
    fewer a p b k below never = grind (arith, nat_tests)

-- without a period the base itself is passed
begun : (from base to : ℕ) → (nat_lt from base && nat_le base to) ≡ true → from < base + 1 * 0
begun from base to t = grind (arith, nat_tests)

ended : (from base to : ℕ) → (nat_lt from base && nat_le base to) ≡ true → base + 1 * 0 ≤ to
ended from base to t = grind (arith, nat_tests)

at_once : (from base to k : ℕ) → from < base + k * 0 → base + k * 0 ≤ to
    → (nat_lt from base && nat_le base to) ≡ true
at_once from base to k low high = grind (arith, nat_tests)

passes-Decides : (base period from to : ℕ)
    → Decides (passes_multiple base period from to) (PassesMultiple base period from to)
passes-Decides base period from to = by (period == 0) refl
  where
    by : (b : Bool) → (period == 0) ≡ b
        → Decides (passes_multiple base period from to) (PassesMultiple base period from to)
    by true e =
        let none : period ≡ 0 = grind (arith, nat_tests) in
        let P : ℕ → Type 0 = λ p. Decides (passes_multiple base p from to)
        (PassesMultiple base p from to) in
        subst P (sym none) (
          λ t. (1, omega arith, begun from base to t, ended from base to t),
          λ p. at_once from base to p.0 p.2 p.3,
        )
    by false e =
        let some : 0 < period = grind (arith, nat_tests) in
        rw e (more_multiples base period from to some)

waited-Decides : (noted : Option ℕ) (buffer to : ℕ)
    → Decides (has_waited noted buffer to) (HasWaited noted buffer to)
waited-Decides None buffer to = (λ e. absurd cc, λ p. let e = p.1 in absurd cc)
waited-Decides (Some first) buffer to = (
  λ t. (first, refl, in_time first buffer to t),
  λ p. in_test first p.0 buffer to (let same = p.1 in cc) p.2,
)
  where
    in_time : (first buffer to : ℕ) → nat_le (first + buffer) to ≡ true → first + buffer ≤ to
    in_time first buffer to t = grind (arith, nat_tests)

    in_test : (first other buffer to : ℕ) → first ≡ other → other + buffer ≤ to
        → nat_le (first + buffer) to ≡ true
    in_test first other buffer to same h = grind (arith, nat_tests)

full-Decides : (s : SlotState) → Decides (is_full s) (IsFull s)
full-Decides s = Decides-and _ _ (λ e. e, λ e. e) (at_least 500 (length s.noted))
  where
    at_least : (a b : ℕ) → Decides (nat_le a b) (a ≤ b)
    at_least a b = (λ e. grind (arith, nat_tests), λ h. grind (arith, nat_tests))

-- a sum of conditions has those that hold
sum_interval : (x y z : Bool) → HasCondition (sum_of x y z) 128 ↔ (x ≡ true)
sum_interval true true true = (λ h. refl, λ e. refl)
sum_interval true true false = (λ h. refl, λ e. refl)
sum_interval true false true = (λ h. refl, λ e. refl)
sum_interval true false false = (λ h. refl, λ e. refl)
sum_interval false true true = (λ h. absurd (omega arith), λ e. absurd cc)
sum_interval false true false = (λ h. absurd (omega arith), λ e. absurd cc)
sum_interval false false true = (λ h. absurd (omega arith), λ e. absurd cc)
sum_interval false false false = (λ h. absurd (omega arith), λ e. absurd cc)

sum_integrity : (x y z : Bool) → HasCondition (sum_of x y z) 64 ↔ (y ≡ true)
sum_integrity true true true = (λ h. refl, λ e. refl)
sum_integrity true true false = (λ h. refl, λ e. refl)
sum_integrity true false true = (λ h. absurd (omega arith), λ e. absurd cc)
sum_integrity true false false = (λ h. absurd (omega arith), λ e. absurd cc)
sum_integrity false true true = (λ h. refl, λ e. refl)
sum_integrity false true false = (λ h. refl, λ e. refl)
sum_integrity false false true = (λ h. absurd (omega arith), λ e. absurd cc)
sum_integrity false false false = (λ h. absurd (omega arith), λ e. absurd cc)

sum_change : (x y z : Bool) → HasCondition (sum_of x y z) 32 ↔ (z ≡ true)
sum_change true true true = (λ h. refl, λ e. refl)
sum_change true true false = (λ h. absurd (omega arith), λ e. absurd cc)
sum_change true false true = (λ h. refl, λ e. refl)
sum_change true false false = (λ h. absurd (omega arith), λ e. absurd cc)
sum_change false true true = (λ h. refl, λ e. refl)
sum_change false true false = (λ h. absurd (omega arith), λ e. absurd cc)
sum_change false false true = (λ h. refl, λ e. refl)
sum_change false false false = (λ h. absurd (omega arith), λ e. absurd cc)

sum_small : (x y z : Bool) → (sum_of x y z % 32 ≡ 0) × (sum_of x y z < 256)
sum_small true true true = (refl, omega arith)
sum_small true true false = (refl, omega arith)
sum_small true false true = (refl, omega arith)
sum_small true false false = (refl, omega arith)
sum_small false true true = (refl, omega arith)
sum_small false true false = (refl, omega arith)
sum_small false false true = (refl, omega arith)
sum_small false false false = (refl, omega arith)

-- a condition holds where the slot is enabled, wishes it, and the time brings it about
holds : (status : Bool) (conditions condition : ℕ) (test : Bool) (P H : Type 0) → Decides test P
    → (H ↔ ((status && has conditions condition && test) ≡ true))
    → H ↔ ((status ≡ true) × HasCondition conditions condition × P)
holds status conditions condition test P H d tells =
    let all = Decides-and _ _
    (Decides-and _ _ (true-Decides status) (Decides-eqb (conditions / condition % 2) 1)) d in (
      λ h. (let p = all.0 (tells.0 h) in (p.0.0, p.0.1, p.1)),
      λ p. tells.1 (all.1 ((p.0, p.1), p.2)),
    )
  where
    true-Decides : (b : Bool) → Decides b (b ≡ true)
    true-Decides b = (λ e. e, λ e. e)

pub some_number : (s : SlotState) (from to : ℕ) → AreDue s from to (conditions_due s from to)
some_number s from to =
    let interval = passes_multiple s.base (milliseconds s.wish.interval) from to in
    let integrity = passes_multiple s.base (milliseconds s.wish.integrity) from to in
    let change = has_waited s.first (milliseconds s.wish.buffer) to || is_full s in
    let x = s.wish.status && has s.wish.conditions 128 && interval in
    let y = s.wish.status && has s.wish.conditions 64 && integrity in
    let z = s.wish.status && has s.wish.conditions 32 && change in record {
      interval = holds s.wish.status s.wish.conditions 128 interval _ _
          (passes-Decides s.base (milliseconds s.wish.interval) from to) (sum_interval x y z);
      integrity = holds s.wish.status s.wish.conditions 64 integrity _ _
          (passes-Decides s.base (milliseconds s.wish.integrity) from to) (sum_integrity x y z);
      change = holds s.wish.status s.wish.conditions 32 change _ _
          (Decides-or _ _ (waited-Decides s.first (milliseconds s.wish.buffer) to) (full-Decides s))
          (sum_change x y z);
      no_others = sum_small x y z;
    }
