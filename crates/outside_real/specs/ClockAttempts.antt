-- Attempts at reading the time.
use Rattle.std.specs.Prelude.{◌⊎◌, ℕ, ◌≤◌, Option, Some, None}
use Rattle.outside.specs.declared.links.clock.TheConstants.{READING_LIMIT}

-- a reading is what one attempt came to; none is an attempt that failed, or that came to a time out
-- of range
abbrev pub ClockAttempted : {S : Type 0} → (S → Option ℕ → S → Type 0) → S → S → Option ℕ → Type 0
ClockAttempted {S} attempt before after (Some reading) = attempt before (Some reading) after
ClockAttempted {S} attempt before after None =
    attempt before None after
    ⊎ ((time : ℕ) × (READING_LIMIT ≤ time) × attempt before (Some time) after)
