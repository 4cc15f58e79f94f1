-- What a thread makes of its job, and what becomes of the threads that were started.
use Rattle.std.specs.Prelude.{◌≡◌, ◌⊎◌, ℕ, Bool, true, false, List, [], ◌∷◌, map, is_some}
use Rattle.std.specs.Prelude.{Option, Some, None, Result, Ok, Err}
use Rattle.std.specs.List.{count_by}
use Rattle.job_threads.specs.declared.thread_job.Outcome.{Outcome}
use Rattle.job_threads.specs.declared.thread_job.Outcome.TheVariants.{Ran, Unrun}
use Rattle.job_threads.specs.declared.thread_job.Unstarted.{Unstarted}
use Rattle.job_threads.specs.declared.thread_job.Unstarted.TheVariants.{Memory, Refused}

-- a job that ran gave what it may give; one that didn't comes back
abbrev pub ComesOf : {J D : Type 0} → (J → D → Type 0) → J → Outcome J D → Type 0
ComesOf {J} {D} may_give job (Ran done) = may_give job done
ComesOf {J} {D} may_give job (Unrun back) = back ≡ job

-- the thread is this job's, or the job comes back
abbrev pub IsSpawned : {J : Type 0} → J → Result J (Unstarted J) → Type 0
IsSpawned {J} job (Ok thread) = thread ≡ job
IsSpawned {J} job (Err (Memory back)) = back ≡ job
IsSpawned {J} job (Err (Refused back)) = back ≡ job

-- whether no thread could be made
abbrev pub is_refused : {J : Type 0} → Unstarted J → Bool
is_refused {J} (Memory back) = false
is_refused {J} (Refused back) = true

-- a job that was started, and the thread that does it, up to where that is joined
pub record Work (J T : Type 0) : Type 0 where
  pub job : J
  pub thread : Option T

-- a job whose thread runs, or the job comes back
abbrev pub IsStarted : {J T : Type 0} → J → Result (Work J T) (Unstarted J) → Type 0
IsStarted {J} {T} job (Ok work) = (work.job ≡ job) × (is_some work.thread ≡ true)
IsStarted {J} {T} job (Err (Memory back)) = back ≡ job
IsStarted {J} {T} job (Err (Refused back)) = back ≡ job

-- the thread that does the job is this job's; where there is none, what came of it is there
abbrev pub IsWorkOf : {J T D : Type 0} → (T → J) → (J → D → Type 0) → J → Option T → Option D
    → Type 0
IsWorkOf {J} {T} {D} job_of may_give job (Some thread) outcome = job_of thread ≡ job
IsWorkOf {J} {T} {D} job_of may_give job None (Some outcome) = may_give job outcome
IsWorkOf {J} {T} {D} job_of may_give job None None = ⊥

-- whether its thread is still to be joined
abbrev pub is_in_thread : {J T : Type 0} → Work J T → Bool
is_in_thread {J} {T} work = is_some work.thread

-- how many threads are still to be joined
abbrev pub threads_of : {J T : Type 0} → List (Work J T) → ℕ
threads_of {J} {T} works = count_by is_in_thread works

-- where a thread, asked whether it is over, says so, it is joined; else nothing changes
abbrev pub SettlesBy : {J T : Type 0} → (T → Bool → Type 0) → J → Option T → Work J T → Type 0
SettlesBy {J} {T} over job None after = after ≡ record { job = job; thread = None }
SettlesBy {J} {T} over job (Some thread) after =
    (over thread true × (after ≡ record { job = job; thread = None }))
    ⊎ (over thread false × (after ≡ record { job = job; thread = Some thread }))

abbrev pub Settles : {J T : Type 0} → (T → Bool → Type 0) → Work J T → Work J T → Type 0
Settles {J} {T} over before after = SettlesBy over before.job before.thread after

-- the jobs that were started
abbrev pub jobs_of : {J T : Type 0} → List (Work J T) → List J
jobs_of {J} {T} works = map (λ work. work.job) works

-- so each of these
abbrev pub SettleEach : {J T : Type 0} → (T → Bool → Type 0) → List (Work J T) → List (Work J T)
    → Type 0
SettleEach {J} {T} over [] [] = Unit {0}
SettleEach {J} {T} over (before ∷ old) (after ∷ new) =
    Settles over before after × SettleEach over old new
SettleEach {J} {T} over old new = ⊥
