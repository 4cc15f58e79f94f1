-- What contracts see of a spawner of threads, and which starts it refuses.
use Rattle.std.specs.Prelude.{◌≡◌, ◌⊎◌, ℕ, ◌≤◌, ◌==◌, ◌||◌, ◌%◌, Bool, true, false}
use Rattle.std.specs.Prelude.{List, Contains, nat_le}
use Rattle.outside.specs.Faults.{next_count}
use Rattle.outside.specs.Links.Jobs.{SpawnerTold}
use Rattle.outside.specs.declared.links.job.Start.{Start}
use Rattle.outside.specs.declared.links.job.Start.TheVariants as starts
use Rattle.job_threads.specs.declared.spawner.TheConstants.{MOST_THREADS, SETTLE_AFTER}
use Rattle.job_threads.specs.declared.thread_job.Unstarted.{Unstarted}
use Rattle.job_threads.specs.declared.thread_job.Unstarted.TheVariants.{Memory, Refused}
use Rattle.job_threads.specs.Threading.{Work, SettleEach}

-- what it tells, the numbers of the starts that it refuses, the number of the next start, how many
-- threads are still to be joined, and for how many starts the system made no thread
pub record SpawnerState (J : Type 0) : Type 0 where
  pub told : SpawnerTold J
  pub refuses : List ℕ
  pub starts : ℕ
  pub threads : ℕ
  pub unmade : ℕ

-- the next start is one of those
abbrev pub RefusesNext : {J : Type 0} → SpawnerState J → Type 0
RefusesNext state = Contains state.refuses state.starts

-- whether the threads that are over are to be joined: behind so many starts, and where there are as
-- many threads as there may be
abbrev pub is_due : ℕ → ℕ → Bool
is_due starts threads = (starts % SETTLE_AFTER == 0) || nat_le MOST_THREADS threads

-- where it is due, each thread that is over is joined, and no other
abbrev pub MakesRoom : {J T : Type 0} → (T → Bool → Type 0) → Bool → List (Work J T)
    → List (Work J T) → Type 0
MakesRoom {J} {T} over true before after = SettleEach over before after
MakesRoom {J} {T} over false before after = after ≡ before

-- a job that wasn't started comes back, with a fault exactly where no thread could be made
abbrev pub HandsBack : {J : Type 0} → SpawnerState J → SpawnerState J → Unstarted J → Start J
    → Type 0
HandsBack before after (Memory job) ended = (ended ≡ starts.Memory job) × (after ≡ before)
HandsBack before after (Refused job) ended =
    (ended ≡ starts.Refused job)
    × (after ≡ record before {
      told = record before.told { faults = next_count before.told.faults };
    })

-- so where the system made none, which is counted
abbrev pub HandsUnmade : {J : Type 0} → SpawnerState J → SpawnerState J → Unstarted J → Start J
    → Type 0
HandsUnmade before after (Memory job) ended = (ended ≡ starts.Memory job) × (after ≡ before)
HandsUnmade before after (Refused job) ended =
    (ended ≡ starts.Refused job)
    × (after ≡ record before {
      told = record before.told { faults = next_count before.told.faults };
      unmade = next_count before.unmade;
    })

-- a start is refused since it is one of those, since there are as many threads as there may be, or
-- since the system made none, which is counted, and for no other cause; there are no more than that
abbrev pub HasCause : {J : Type 0} → SpawnerState J → SpawnerState J → Start J → Type 0
HasCause before after starts.Started =
    (after.threads ≤ MOST_THREADS) × (after.unmade ≡ before.unmade)
HasCause before after (starts.Memory back) = after.unmade ≡ before.unmade
HasCause before after (starts.Refused back) =
    ((RefusesNext before ⊎ (MOST_THREADS ≤ after.threads)) × (after.unmade ≡ before.unmade))
    ⊎ (after.unmade ≡ next_count before.unmade)
