-- The next moment at which something of a transfer set is due.
use Rattle.std.specs.Prelude.{◌≡◌, ℕ, ◌<◌, nat_le, nat_lt, ◌⊎◌, Bool, false, if◌then◌else◌, Option, Some}
use Rattle.std.specs.Prelude.{None}
use Rattle.transfer_sets.specs.declared.next_due.TheConstants.{DUE_LIMIT}
use Rattle.transfer_sets.specs.declared.wish.TheConstants.{CHANGE}
use Rattle.transfer_sets.specs.Wishes.{HasCondition}
use Rattle.transfer_sets.specs.SlotState.{SlotState}
use Rattle.transfer_sets.specs.Due.{PassesMultiple, HasWaited, IsFull, AreDue, IsNextDue}
use Rattle.transfer_sets.specs.Due.{milliseconds}

-- The next moment, above another and below the limit of all such moments, at which something is
-- due; there is none exactly where at each moment above the other and below the limit nothing is.
pub record IsNextMoment (s : SlotState) (from : ℕ) (next : Option ℕ) : Type 0 where
  pub due : (to : ℕ) → next ≡ Some to → IsNextDue s from to × (to < DUE_LIMIT)
  pub none : next ≡ None → (to : ℕ) → from < to → to < DUE_LIMIT → AreDue s from to 0

-- whether a moment, where there is one, is now or over
abbrev pub has_come : Option ℕ → ℕ → Bool
has_come None now = false
has_come (Some moment) now = nat_le moment now

-- something holds at no moment between two others
abbrev pub HoldsNever : (ℕ → Type 0) → ℕ → ℕ → Type 0
HoldsNever Holds from end = (moment : ℕ) → from < moment → moment < end → Holds moment → ⊥

-- the first moment above another and below the limit at which something holds, or none
abbrev pub IsFirstMoment : (ℕ → Type 0) → ℕ → Option ℕ → Type 0
IsFirstMoment Holds from None = HoldsNever Holds from DUE_LIMIT
IsFirstMoment Holds from (Some to) =
    (from < to) × (to < DUE_LIMIT) × Holds to × HoldsNever Holds from to

-- the earlier of two moments, or the one that there is
abbrev pub earlier : Option ℕ → Option ℕ → Option ℕ
earlier None other = other
earlier (Some one) None = Some one
earlier (Some one) (Some other) = if nat_le one other then Some one else Some other

-- a moment, where it is below the limit
abbrev pub below_limit : ℕ → Option ℕ
below_limit to = if nat_lt to DUE_LIMIT then Some to else None

-- a slot's wish has a condition of time, and a multiple of its seconds is passed
abbrev pub IsPassedTime : SlotState → ℕ → ℕ → ℕ → ℕ → Type 0
IsPassedTime s condition seconds from to =
    HasCondition s.wish.conditions condition
    × PassesMultiple s.base (milliseconds seconds) from to

-- changes of a slot have waited long enough, or fill a report
abbrev pub AreRipe : SlotState → ℕ → Type 0
AreRipe s to = HasWaited s.first (milliseconds s.wish.buffer) to ⊎ IsFull s

-- a slot's wish has the condition of changes, and there are such
abbrev pub IsRipeChange : SlotState → ℕ → Type 0
IsRipeChange s to = HasCondition s.wish.conditions CHANGE × AreRipe s to
