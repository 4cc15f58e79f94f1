-- What a clock tells, and what a reading does to it.
use Rattle.std.specs.Prelude.{◌≡◌, ℕ, ◌<◌, List, [], ◌∷◌, Option, Some, None, IfSome, is_none}
use Rattle.outside.specs.Faults.{counted}
use Rattle.outside.specs.Octets.{Adds}
use Rattle.outside.specs.declared.links.clock.TheConstants.{READING_LIMIT}

-- what a clock tells
pub record ClockTold : Type 0 where
  -- the readings that it gave, in order; they may be untold
  pub readings : Option (List ℕ)
  -- how many faults there were
  pub faults : ℕ

-- the reading that was given, where one was
abbrev pub reading_given : Option ℕ → List ℕ
reading_given (Some reading) = reading ∷ []
reading_given None = []

pub record ReadsClock (before after : ClockTold) (result : Option ℕ) : Type 0 where
  -- the reading is one more of those given
  pub readings : Adds before.readings after.readings (reading_given result)
  pub range : IfSome result (λ reading. reading < READING_LIMIT)
  -- the count rises by one exactly where it gives none
  pub faults : after.faults ≡ counted (is_none result) before.faults
