-- An index of transfer sets by the next moment at which something of each is due.
use Rattle.std.specs.Prelude.{◌≡◌, ℕ, ◌<◌, ◌≤◌, true, false, List, length, Option, Some, None}
use Rattle.std.specs.Prelude.{slice_index_or}
use Rattle.transfer_sets.specs.Banks.{OwnedSlot, slot_at, is_owned_by}
use Rattle.transfer_sets.specs.NextDue.{IsNextMoment, has_come}

-- the moment that an index holds for a slot, if it holds one
abbrev pub next_at : List (Option ℕ) → ℕ → Option ℕ
next_at index s = slice_index_or index s None

-- Of the first so many slots of an index this one has this moment, none has an earlier one, and
-- none of a lower number has this moment.
pub record IsLeastOf (index : List (Option ℕ)) (n moment s : ℕ) : Type 0 where
  pub within : s < n
  pub here : next_at index s ≡ Some moment
  pub least : (t other : ℕ) → t < n → next_at index t ≡ Some other → moment ≤ other
  pub lowest : (t : ℕ) → t < s → next_at index t ≡ Some moment → ⊥

-- of the first so many slots of an index, the first moment with its slot, the lowest of several;
-- none where none of them has a moment
abbrev pub IsFirstOf : List (Option ℕ) → ℕ → Option (ℕ × ℕ) → Type 0
IsFirstOf index n None = (s : ℕ) → s < n → next_at index s ≡ None
IsFirstOf index n (Some first) = IsLeastOf index n first.0 first.1

-- the first moment of an index with its slot, the lowest of several; none where no slot has one
abbrev pub IsFirst : List (Option ℕ) → Option (ℕ × ℕ) → Type 0
IsFirst index first = IsFirstOf index (length index) first

-- the moments of the slots from one on and below another haven't come
abbrev pub HaveNotCome : List (Option ℕ) → ℕ → ℕ → ℕ → Type 0
HaveNotCome index to after end =
    (s : ℕ) → after ≤ s → s < end → has_come (next_at index s) to ≡ false

-- the moment of a slot has come
abbrev pub HasAnyCome : List (Option ℕ) → ℕ → Type 0
HasAnyCome index now =
    (s : ℕ) × (s < length index) × (has_come (next_at index s) now ≡ true)

-- An index holds for each slot of a bank the next moment, after now, at which something of the slot
-- is due.
pub record IsDueIndex (bank : List OwnedSlot) (now : ℕ) (index : List (Option ℕ)) : Type 0 where
  pub many : length index ≡ length bank
  pub each : (s : ℕ) → s < length bank
      → IsNextMoment (slot_at bank s).state now (next_at index s)

-- The index of a bank whose transfer sets are told in turn, as the clock goes on from a moment to
-- another: of those below the place where the turn stands it holds the next moment after the later
-- one, of the others still that after the earlier.
pub record IsTurningIndex (bank : List OwnedSlot) (turn from to : ℕ) (index : List (Option ℕ)) :
    Type 0 where
  pub many : length index ≡ length bank
  pub told : (s : ℕ) → s < length bank → s < turn
      → IsNextMoment (slot_at bank s).state to (next_at index s)
  pub ahead : (s : ℕ) → s < length bank → turn ≤ s
      → IsNextMoment (slot_at bank s).state from (next_at index s)

-- an index behind the end of an association: its transfer sets have no moment, the others theirs
pub record HasFreed (bank : List OwnedSlot) (ordinal : ℕ) (old new : List (Option ℕ)) :
    Type 0 where
  pub many : length new ≡ length old
  pub own : (s : ℕ) → s < length bank → is_owned_by ordinal (slot_at bank s) ≡ true
      → next_at new s ≡ None
  pub others : (s : ℕ) → s < length bank → is_owned_by ordinal (slot_at bank s) ≡ false
      → next_at new s ≡ next_at old s
