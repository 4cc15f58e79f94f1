-- When a report of a slot is due.
use Rattle.std.specs.Prelude.{◌≡◌, ◌↔◌, ℕ, ◌+◌, ◌-◌, ◌*◌, ◌/◌, ◌%◌, ◌<◌, ◌≤◌, ◌==◌, nat_lt, nat_le}
use Rattle.std.specs.Prelude.{Bool, true, false, ◌&&◌, ◌||◌, ◌⊎◌, if◌then◌else◌, Option, Some, None}
use Rattle.std.specs.Prelude.{length}
use Rattle.transfer_sets.specs.declared.wish.TheConstants.{INTERVAL, INTEGRITY, CHANGE}
use Rattle.transfer_sets.specs.Wishes.{HasCondition, has}
use Rattle.transfer_sets.specs.SlotState.{SlotState, tells_all}

-- a time of seconds in milliseconds
abbrev pub milliseconds : ℕ → ℕ
milliseconds seconds = seconds * 1000

-- some whole multiple of the period after the base, one at the least, stands after `from` and not
-- after `to`
abbrev pub PassesMultiple : ℕ → ℕ → ℕ → ℕ → Type 0
PassesMultiple base period from to =
    (k : ℕ) × (1 ≤ k) × (from < base + k * period) × (base + k * period ≤ to)

-- the first change that was noted has waited for the time of the buffer
abbrev pub HasWaited : Option ℕ → ℕ → ℕ → Type 0
HasWaited noted buffer to = (first : ℕ) × (noted ≡ Some first) × (first + buffer ≤ to)

-- how many noted changes one report tells at the most, and how many make one due
abbrev pub noted_limit : ℕ
noted_limit = 500

-- so many changes are noted that a report of them has its full length
abbrev pub IsFull : SlotState → Type 0
IsFull s = (tells_all s.wish ≡ true) × (noted_limit ≤ length s.noted)

-- The conditions, as their sum, that are due where the clock goes on from a moment to another:
-- those of a slot that is enabled which its wish has, and which the time brings about.
pub record AreDue (s : SlotState) (from to conditions : ℕ) : Type 0 where
  pub interval : HasCondition conditions INTERVAL
      ↔ ((s.wish.status ≡ true) × HasCondition s.wish.conditions INTERVAL
      × PassesMultiple s.base (milliseconds s.wish.interval) from to)
  pub integrity : HasCondition conditions INTEGRITY
      ↔ ((s.wish.status ≡ true) × HasCondition s.wish.conditions INTEGRITY
      × PassesMultiple s.base (milliseconds s.wish.integrity) from to)
  pub change : HasCondition conditions CHANGE
      ↔ ((s.wish.status ≡ true) × HasCondition s.wish.conditions CHANGE
      × (HasWaited s.first (milliseconds s.wish.buffer) to ⊎ IsFull s))
  pub no_others : (conditions % CHANGE ≡ 0) × (conditions < 256)

-- what the first conditions have, the second have too
pub record HasConditions (conditions more : ℕ) : Type 0 where
  pub interval : HasCondition conditions INTERVAL → HasCondition more INTERVAL
  pub integrity : HasCondition conditions INTEGRITY → HasCondition more INTEGRITY
  pub change : HasCondition conditions CHANGE → HasCondition more CHANGE

-- the next moment after another at which something is due, and at none between
pub record IsNextDue (s : SlotState) (from to : ℕ) : Type 0 where
  pub after : from < to
  pub due : AreDue s from to 0 → ⊥
  pub first : (moment : ℕ) → from < moment → moment < to → AreDue s from moment 0

-- how many whole multiples of a period after the base stand at a moment or before it
abbrev pub multiples_to : ℕ → ℕ → ℕ → ℕ
multiples_to base period moment = (moment - base) / period

-- whether a multiple is passed: there are more of them, or, without a period, the base itself is
abbrev pub passes_multiple : ℕ → ℕ → ℕ → ℕ → Bool
passes_multiple base period from to =
    if period == 0 then nat_lt from base && nat_le base to
    else nat_lt (multiples_to base period from) (multiples_to base period to)

abbrev pub has_waited : Option ℕ → ℕ → ℕ → Bool
has_waited None buffer to = false
has_waited (Some first) buffer to = nat_le (first + buffer) to

-- whether a report of the noted changes has its full length
abbrev pub is_full : SlotState → Bool
is_full s = tells_all s.wish && nat_le noted_limit (length s.noted)

-- the sum of the conditions that hold
abbrev pub sum_of : Bool → Bool → Bool → ℕ
sum_of interval integrity change =
    (if interval then INTERVAL else 0) + (if integrity then INTEGRITY else 0)
    + (if change then CHANGE else 0)

-- the conditions that are due, as a number that computes
abbrev pub conditions_due : SlotState → ℕ → ℕ → ℕ
conditions_due s from to =
    sum_of
    (s.wish.status && has s.wish.conditions INTERVAL
    && passes_multiple s.base (milliseconds s.wish.interval) from to)
    (s.wish.status && has s.wish.conditions INTEGRITY
    && passes_multiple s.base (milliseconds s.wish.integrity) from to)
    (s.wish.status && has s.wish.conditions CHANGE
    && (has_waited s.first (milliseconds s.wish.buffer) to || is_full s))
