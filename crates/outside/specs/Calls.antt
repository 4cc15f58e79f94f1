-- The calls of an object outside. After a call that says that nothing is left, or that failed, none
-- should come.
use Rattle.std.specs.Prelude.{◌≡◌, ◌⊎◌, ℕ, Bool, true, false, Option, option_map}
use Rattle.outside.specs.Faults.{counted}

-- what an object tells of its calls
pub record Calls : Type 0 where
  -- whether the last call said that nothing is left, or failed
  pub stopped : Bool
  -- how many calls came directly after such a call
  pub late : ℕ

-- the calls with one more
abbrev pub called : Bool → Calls → Calls
called stops calls = record { stopped = stops; late = counted calls.stopped calls.late }

-- calls of which none came late but the first, where one had stopped before; whether the last of
-- them stopped
abbrev pub GoesOn : Option Calls → Option Calls → Bool → Type 0
GoesOn before after false = (after ≡ before) ⊎ (after ≡ option_map (called false) before)
GoesOn before after true = after ≡ option_map (called true) before
