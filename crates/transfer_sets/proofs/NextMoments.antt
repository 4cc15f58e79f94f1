-- The next moment at which something of a slot is due.
use Rattle.std.proofs.Common.{◌≡◌, ℕ, ◌<◌, ◌≤◌, ◌⊎◌, ◌==◌, nat_le, not, Bool, true, false, Option}
use Rattle.std.proofs.Common.{Some, None, inl, inr, refl, ap, subst, arith}
use Rattle.std.proofs.lemmas.Bool.{cases_lt}
use Rattle.std.proofs.lemmas.Bool.Decides.{nat_tests}
use Rattle.transfer_sets.specs.SlotState.{SlotState}
use Rattle.transfer_sets.specs.Due.{PassesMultiple, HasWaited, IsFull, AreDue, IsNextDue}
use Rattle.transfer_sets.specs.Due.{milliseconds}
use Rattle.transfer_sets.specs.Wishes.{HasCondition}
use Rattle.transfer_sets.specs.NextDue.{IsNextMoment, has_come, IsFirstMoment, IsPassedTime}
use Rattle.transfer_sets.specs.NextDue.{IsRipeChange, earlier}
use Rattle.transfer_sets.proofs.DueNumbers.{one_number}
use Rattle.transfer_sets.proofs.DueLater.{none_off, none_earlier, due_on, next_on}
use Rattle.transfer_sets.proofs.DueLater.{none_128, none_64, none_32}
use Rattle.transfer_sets.proofs.FirstMoments.{first_of_two, first_as}

-- there is none, or one
pub no_next : (s : SlotState) (from : ℕ)
    → ((to : ℕ) → from < to → to < 2147483648000 → AreDue s from to 0) → IsNextMoment s from None
no_next s from never = record { due = λ to e. absurd cc; none = λ e. never }

pub some_next : (s : SlotState) (from to : ℕ) → IsNextDue s from to → to < 2147483648000
    → IsNextMoment s from (Some to)
some_next s from to next below = record {
  due = λ other e. (let same : to ≡ other = cc in
      subst (λ (m : ℕ). IsNextDue s from m × (m < 2147483648000)) same (next, below));
  none = λ e. absurd cc;
}

module _ (s : SlotState) (from : ℕ) where
  -- that some condition is due of an enabled slot
  abbrev IsSome : ℕ → Type 0
  IsSome m = (IsPassedTime s 128 s.wish.interval from m ⊎ IsPassedTime s 64 s.wish.integrity from m)
      ⊎ IsRipeChange s m

  is_due : (m : ℕ) → s.wish.status ≡ true → IsSome m → AreDue s from m 0 → ⊥
  is_due m on some due = elim some [
    | inl time ↦ elim time [
      | inl p ↦ none_128 (due.interval.1 (on, p.0, p.1))
      | inr p ↦ none_64 (due.integrity.1 (on, p.0, p.1))
    ]
    | inr p ↦ none_32 (due.change.1 (on, p.0, p.1))
  ]

  not_due : (m : ℕ) → (IsSome m → ⊥) → AreDue s from m 0
  not_due m never = record {
    interval = (λ h. absurd (none_128 h), λ p. absurd (never (inl (inl (p.1, p.2)))));
    integrity = (λ h. absurd (none_64 h), λ p. absurd (never (inl (inr (p.1, p.2)))));
    change = (λ h. absurd (none_32 h), λ p. absurd (never (inr (p.1, p.2))));
    no_others = (omega arith, omega arith);
  }

  first_is_next : (next : Option ℕ) → s.wish.status ≡ true → IsFirstMoment IsSome from next
      → IsNextMoment s from next
  first_is_next None on first = no_next s from (λ to low high. not_due to (first to low high))
  first_is_next (Some to) on first = some_next s from to (record {
    after = first.0;
    due = is_due to on first.2;
    first = λ moment low high. not_due moment (first.3 moment low high);
  }) first.1

  pub next_of : (interval integrity change : Option ℕ) → s.wish.status ≡ true
      → IsFirstMoment (IsPassedTime s 128 s.wish.interval from) from interval
      → IsFirstMoment (IsPassedTime s 64 s.wish.integrity from) from integrity
      → IsFirstMoment (IsRipeChange s) from change
      → IsNextMoment s from (earlier (earlier interval integrity) change)
  next_of interval integrity change on x y z = first_is_next _ on
      (first_of_two _ (IsRipeChange s) from (earlier interval integrity) change
      (first_of_two (IsPassedTime s 128 s.wish.interval from)
      (IsPassedTime s 64 s.wish.integrity from) from interval integrity x y) z)

-- a condition of time, and of changes, of a wish that has it
pub time_of : (s : SlotState) (condition seconds from : ℕ) (next : Option ℕ)
    → HasCondition s.wish.conditions condition
    → IsFirstMoment (PassesMultiple s.base (milliseconds seconds) from) from next
    → IsFirstMoment (IsPassedTime s condition seconds from) from next
time_of s condition seconds from next has first =
    first_as (PassesMultiple s.base (milliseconds seconds) from)
    (IsPassedTime s condition seconds from) from next (λ m p. (has, p)) (λ m p. p.1) first

pub change_of : (s : SlotState) (from : ℕ) (next : Option ℕ) → HasCondition s.wish.conditions 32
    → (IsFull s → ⊥) → IsFirstMoment (HasWaited s.first (milliseconds s.wish.buffer)) from next
    → IsFirstMoment (IsRipeChange s) from next
change_of s from next has few first =
    first_as (HasWaited s.first (milliseconds s.wish.buffer)) (IsRipeChange s) from next
    (λ m p. (has, inl p)) (λ m p. elim p.1 [
      | inl waited ↦ waited
      | inr full ↦ absurd (few full)
    ]) first

pub next_off : (s : SlotState) (from : ℕ) → s.wish.status ≡ false → IsNextMoment s from None
next_off s from off = no_next s from (λ to low high. none_off s from to off)

-- where a next moment is known, no other one is earlier, and none isn't
not_earlier : (s : SlotState) (from a : ℕ) (next : Option ℕ) → IsNextMoment s from (Some a)
    → IsNextMoment s from next → has_come next a ≡ true
not_earlier s from a None x y =
    let one = x.due a refl in absurd (one.0.due (y.none refl a one.0.after one.1))
not_earlier s from a (Some b) x y =
    let one = x.due a refl in let other = y.due b refl in elim (cases_lt a b) [
      | inl less ↦ absurd (one.0.due (other.0.first a one.0.after less))
      | inr le ↦ grind (arith, nat_tests, le)
    ]

pub one_next : (s : SlotState) (from : ℕ) (a b : Option ℕ) → IsNextMoment s from a
    → IsNextMoment s from b → a ≡ b
one_next s from None None x y = refl
one_next s from None (Some b) x y = let e = not_earlier s from b None y x in absurd cc
one_next s from (Some a) None x y = let e = not_earlier s from a None x y in absurd cc
one_next s from (Some a) (Some b) x y =
    let one = not_earlier s from a (Some b) x y in
    let other = not_earlier s from b (Some a) y x in
    let same : a ≡ b = grind (arith, nat_tests) in ap Some same

-- from a later moment that is before it, the next moment is the same
pub next_later : (s : SlotState) (from later : ℕ) (next : Option ℕ) → from ≤ later
    → has_come next later ≡ false → IsNextMoment s from next → IsNextMoment s later next
next_later s from later None le before x = no_next s later (λ to low high.
    let due = x.none refl to (omega (arith, le, low)) high in
    due_on s from later to le (none_earlier s from later to (omega (arith, low)) due) 0 due)
next_later s from later (Some to) le before x = elim (cases_lt from later) [
  | inl less ↦ (let next = x.due to refl in some_next s later to
      (next_on s from later to le
      (next.0.first later less (grind (arith, nat_tests, before))) next.0) next.1)
  | inr ge ↦ (let same : from ≡ later = omega (arith, le, ge) in
      subst (λ (m : ℕ). IsNextMoment s m (Some to)) same x)
]

not_zero : (n : ℕ) → (n ≡ 0 → ⊥) → not (n == 0) ≡ true
not_zero n never = grind (arith, nat_tests)

-- something is due exactly where the next moment has come
pub due_by_next : (s : SlotState) (from to conditions : ℕ) (next : Option ℕ) → from < to
    → to < 2147483648000 → IsNextMoment s from next → AreDue s from to conditions
    → not (conditions == 0) ≡ has_come next to
due_by_next s from to conditions None above below x due =
    let none : conditions ≡ 0 = one_number s from to conditions 0 due
    (x.none refl to above below) in rw none refl
due_by_next s from to conditions (Some m) above below x due = by (nat_le m to) refl
  where
    by : (b : Bool) → nat_le m to ≡ b → not (conditions == 0) ≡ nat_le m to
    by true e =
        let le : m ≤ to = grind (arith, nat_tests) in
        rw e (not_zero conditions (λ none. (x.due m refl).0.due
        (none_earlier s from m to le (subst (AreDue s from to) none due))))
    by false e =
        let none : conditions ≡ 0 = one_number s from to conditions 0 due
        ((x.due m refl).0.first to above (grind (arith, nat_tests))) in
        rw (e, none) refl
