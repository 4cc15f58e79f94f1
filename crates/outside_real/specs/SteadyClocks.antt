-- A clock that reads the time of day once, and from then on how long the monotonic clock has run.
use Rattle.std.specs.Prelude.{Bool, false, ◌≡◌, ◌⊎◌, ◌↔◌, ℕ, ◌+◌, ◌-◌, ◌^◌, ◌<◌, ◌≤◌, max, min}
use Rattle.std.specs.Prelude.{IsTrue, Option, Some, None}
use Rattle.outside_real.specs.declared.steady_clock.TheConstants.{LEAP_LIMIT}
use Rattle.outside_real.specs.declared.steady_clock.Reading.{Reading}

-- a clock
pub record SteadyState (T : Type 0) : Type 0 where
  pub clocks : T
  pub last : Option Reading
  -- whether the time of day was a leap away from the last reading
  pub is_apart : Bool

-- a clock that wasn't read
abbrev pub new_steady : {T : Type 0} → T → SteadyState T
new_steady {T} clocks = record { clocks = clocks; last = None; is_apart = false }

-- the time once the monotonic clock has run so long: what it ran since the last reading is added
abbrev pub time_at : Reading → ℕ → ℕ
time_at last run = last.time + (run - last.run)

-- the first reading is the time of day; one behind another is what the monotonic clock says,
-- whatever the time of day is by then; none where a clock can't be read, or the time doesn't fit
abbrev pub NextReading : {T : Type 0} → (T → Option ℕ → Type 0) → (T → Option ℕ → Type 0) → T
    → Option Reading → Option Reading → Type 0
NextReading {T} days runs clocks None (Some reading) =
    days clocks (Some reading.time) × runs clocks (Some reading.run)
NextReading {T} days runs clocks (Some last) (Some reading) =
    runs clocks (Some reading.run) × (reading.time ≡ time_at last reading.run)
NextReading {T} days runs clocks None None = days clocks None ⊎ runs clocks None
NextReading {T} days runs clocks (Some last) None =
    runs clocks None ⊎ ((run : ℕ) × runs clocks (Some run) × (2 ^ 64 ≤ time_at last run))

-- how far two times are apart
abbrev pub distance : ℕ → ℕ → ℕ
distance day time = max day time - min day time

-- whether the time of day is a leap away from a reading; as before, where it can't be read
abbrev pub Watches : {T : Type 0} → (T → Option ℕ → Type 0) → T → ℕ → Bool → Bool → Type 0
Watches {T} days clocks time was_apart is_apart =
    (days clocks None × (is_apart ≡ was_apart))
    ⊎ ((day : ℕ) × days clocks (Some day)
    × (IsTrue is_apart ↔ (LEAP_LIMIT < distance day time)))

-- a reading of the clock, which is kept; none changes nothing
abbrev pub SteadyReads : {T : Type 0} → (T → Option ℕ → Type 0) → (T → Option ℕ → Type 0)
    → SteadyState T → Option ℕ → SteadyState T → Type 0
SteadyReads {T} days runs before (Some time) after =
    (reading : Reading) × (reading.time ≡ time)
    × NextReading days runs before.clocks before.last (Some reading)
    × Watches days before.clocks time before.is_apart after.is_apart
    × (after ≡ record before { last = Some reading; is_apart = after.is_apart })
SteadyReads {T} days runs before None after =
    NextReading days runs before.clocks before.last None × (after ≡ before)
