-- The jobs that a spawner started, and what its calls do to them.
use Rattle.std.specs.Prelude.{◌≡◌, ℕ, List, [], ◌∷◌, ◌++◌, Option, Some, None}
use Rattle.outside.specs.Faults.{next_count}
use Rattle.outside.specs.declared.links.job.Start.{Start}
use Rattle.outside.specs.declared.links.job.Start.TheVariants.{Started, Memory, Refused}

-- what a spawner tells
pub record SpawnerTold (J : Type 0) : Type 0 where
  -- the jobs that were started and not handed back yet, in order
  pub pending : List J
  -- how many faults there were
  pub faults : ℕ

-- a job that was started is the last of those; one that wasn't comes back, and the count rises by
-- one exactly where it was refused
abbrev pub StartsJob : {J : Type 0} → SpawnerTold J → SpawnerTold J → J → Start J → Type 0
StartsJob {J} before after job Started =
    after ≡ record before { pending = before.pending ++ job ∷ [] }
StartsJob {J} before after job (Memory back) = (back ≡ job) × (after ≡ before)
StartsJob {J} before after job (Refused back) =
    (back ≡ job) × (after ≡ record before { faults = next_count before.faults })

-- what came of the first of them is handed back; nothing exactly where there are none
abbrev pub FinishesFirst : {J D : Type 0} → (J → D → Type 0) → SpawnerTold J → SpawnerTold J
    → Option D → Type 0
FinishesFirst {J} {D} may_give before after (Some done) =
    (job : J) × may_give job done × (before ≡ record after { pending = job ∷ after.pending })
FinishesFirst {J} {D} may_give before after None = (before.pending ≡ []) × (after ≡ before)
