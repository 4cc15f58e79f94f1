-- Next moments, and an index of them, on worked slots, apart from all code.
use Rattle.std.proofs.Common.{◌≡◌, ℕ, zero, suc, ◌<◌, ◌≤◌, true, false, List, [], ◌∷◌, Option, Some}
use Rattle.std.proofs.Common.{None, subst, refl, arith}
use Rattle.transfer_sets.specs.SlotState.{SlotState, enabled_by}
use Rattle.transfer_sets.specs.Due.{AreDue, conditions_due}
use Rattle.transfer_sets.specs.NextDue.{IsNextMoment, has_come, earlier}
use Rattle.transfer_sets.specs.DueIndex.{next_at, IsFirst}
use Rattle.transfer_sets.proofs.DueNumbers.{one_number, some_number}
use Rattle.transfer_sets.proofs.DueLater.{none_earlier}
use Rattle.transfer_sets.proofs.NextMoments.{no_next, some_next}
use Rattle.transfer_sets.proofs.Worked.{running, both, changed, with_notes, all_told}

none_at : (s : SlotState) (from to : ℕ) → conditions_due s from to ≡ 0 → AreDue s from to 0
none_at s from to none = subst (AreDue s from to) none (some_number s from to)

-- nothing is due just before, and something is then
next_is : (s : SlotState) (from before : ℕ) → from ≤ before → suc before < 2147483648000
    → conditions_due s from before ≡ 0 → (conditions_due s from (suc before) ≡ 0 → ⊥)
    → IsNextMoment s from (Some (suc before))
next_is s from before le below none some = some_next s from (suc before) (record {
  after = omega (arith, le);
  due = λ due. some (one_number s from (suc before) (conditions_due s from (suc before)) 0
      (some_number s from (suc before)) due);
  first = λ moment low high. none_earlier s from moment before (omega (arith, high))
      (none_at s from before none);
}) below

-- something is due at once
at_once : (s : SlotState) (from : ℕ) → suc from < 2147483648000
    → (conditions_due s from (suc from) ≡ 0 → ⊥) → IsNextMoment s from (Some (suc from))
at_once s from below some = some_next s from (suc from) (record {
  after = omega arith;
  due = λ due. some (one_number s from (suc from) (conditions_due s from (suc from)) 0
      (some_number s from (suc from)) due);
  first = λ moment low high. absurd (omega (arith, low, high));
}) below

-- nothing is due until the limit
none_is : (s : SlotState) (from : ℕ) → conditions_due s from 2147483647999 ≡ 0
    → IsNextMoment s from None
none_is s from none = no_next s from (λ to low high. none_earlier s from to 2147483647999
    (omega (arith, high)) (none_at s from 2147483647999 none))

-- every two seconds from 10,000 on
first_multiple : IsNextMoment running 0 (Some 12000)
first_multiple = next_is running 0 11999 (omega arith) (omega arith) refl (λ e. omega (arith, e))

next_multiple : IsNextMoment running 12000 (Some 14000)
next_multiple =
    next_is running 12000 13999 (omega arith) (omega arith) refl (λ e. omega (arith, e))

-- every two seconds, and every three: at the earlier of both
of_both : IsNextMoment (enabled_by both 10000) 12000 (Some 13000)
of_both = next_is (enabled_by both 10000) 12000 12999 (omega arith) (omega arith) refl
    (λ e. omega (arith, e))

-- three seconds after the first change; at once where that is over, or a report is full
after_the_buffer : IsNextMoment changed 20000 (Some 23000)
after_the_buffer =
    next_is changed 20000 22999 (omega arith) (omega arith) refl (λ e. omega (arith, e))

after_a_long_wait : IsNextMoment changed 25000 (Some 25001)
after_a_long_wait = at_once changed 25000 (omega arith) (λ e. omega (arith, e))

full_at_once : IsNextMoment (with_notes all_told 500) 21000 (Some 21001)
full_at_once = at_once (with_notes all_told 500) 21000 (omega arith) (λ e. omega (arith, e))

-- nothing of one that isn't enabled, nor where no change is noted
none_off : IsNextMoment (record running { wish = both }) 12000 None
none_off = none_is (record running { wish = both }) 12000 refl

none_unchanged : IsNextMoment (record changed { first = None }) 20000 None
none_unchanged = none_is (record changed { first = None }) 20000 refl

earlier_of_two : earlier (Some 14000) (Some 13000) ≡ Some 13000
earlier_of_two = refl

has_come_now : has_come (Some 12000) 12000 ≡ true
has_come_now = refl

not_come_yet : has_come (Some 12000) 11999 ≡ false
not_come_yet = refl

-- four slots, of which two have the first moment, and one has none
abbrev index : List (Option ℕ)
index = Some 5000 ∷ None ∷ Some 3000 ∷ Some 3000 ∷ []

some_same : (a b : ℕ) → Some a ≡ Some b → a ≡ b
some_same a b e = cc

lowest_of_two : IsFirst index (Some (3000, 2))
lowest_of_two = record { within = omega arith; here = refl; least = least; lowest = lowest }
  where
    least : (t other : ℕ) → t < 4 → next_at index t ≡ Some other → 3000 ≤ other
    least zero other below e = let same = some_same 5000 other e in omega (arith, same)
    least (suc zero) other below e = absurd cc
    least (suc (suc zero)) other below e = let same = some_same 3000 other e in omega (arith, same)
    least (suc (suc (suc zero))) other below e = let same = some_same 3000 other e in
        omega (arith, same)
    least (suc (suc (suc (suc t)))) other below e = absurd (omega (arith, below))

    lowest : (t : ℕ) → t < 2 → next_at index t ≡ Some 3000 → ⊥
    lowest zero below e = let same = some_same 5000 3000 e in omega (arith, same)
    lowest (suc zero) below e = absurd cc
    lowest (suc (suc t)) below e = absurd (omega (arith, below))
