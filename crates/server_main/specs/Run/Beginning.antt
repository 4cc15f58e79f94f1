-- The beginning of a server: its node is shared, and the feed's and the clock's jobs are started.
use Rattle.std.specs.Prelude.{◌≡◌, ℕ, true, [], Option, Some, None, is_some}
use Rattle.outside.specs.Faults.{next_count}
use Rattle.outside.specs.Source.{SourceTold}
use Rattle.outside.specs.Links.Clocks.{ClockTold}
use Rattle.outside.specs.Links.Jobs.{SpawnerTold}
use Rattle.outside.specs.declared.links.job.Start.{Start}
use Rattle.outside.specs.declared.links.job.Start.TheVariants as starts
use Rattle.share_turn.specs.Public.{IsOf}
use Rattle.node_server.specs.NodeCalls.{NodeSeat}
use Rattle.node_server.specs.declared.jobs.parts.JobParts.{JobParts}
use Rattle.server_main.specs.Run.Gathering.{SharedNode, FeedStarted, TicksStarted, behind_started}
use Rattle.server_main.specs.Run.Starting.{TakesBack}
use Rattle.server_main.specs.declared.run.starting.JobInput.{JobInput}
use Rattle.server_main.specs.declared.run.starting.JobInput.TheVariants as inputs
use Rattle.server_main.specs.declared.run.beginning.Begun.{Begun}
use Rattle.server_main.specs.declared.run.beginning.Beginning.{Beginning}
use Rattle.server_main.specs.declared.run.beginning.Beginning.TheVariants as ends

-- the first seat of a shared node, which has taken no event
pub record IsFirstSeat (node : SharedNode) (seat : NodeSeat) : Type 0 where
  pub of : IsOf node seat
  pub number : seat.number ≡ 0
  pub front : seat.front ≡ []
  pub ended : seat.ended ≡ []

-- a feed was given to a job
abbrev pub IsFeedInput : {L S C : Type 0} → JobInput L S C → Type 0
IsFeedInput {L} {S} {C} (inputs.Link link) = ⊥
IsFeedInput {L} {S} {C} (inputs.Feed source) = Unit {0}
IsFeedInput {L} {S} {C} (inputs.Clock clock) = ⊥

-- a clock was given to a job
abbrev pub IsClockInput : {L S C : Type 0} → JobInput L S C → Type 0
IsClockInput {L} {S} {C} (inputs.Link link) = ⊥
IsClockInput {L} {S} {C} (inputs.Feed source) = ⊥
IsClockInput {L} {S} {C} (inputs.Clock clock) = Unit {0}

-- how a beginning ends by the start of the clock's job, where the feed's was started
abbrev pub EndsBeginning : {S C : Type 0} → Start C → Begun S C → Type 0
EndsBeginning {S} {C} starts.Started begun =
    begun ≡ record { feed = None; clock = None; end = ends.Whole }
EndsBeginning {S} {C} (starts.Memory clock) begun =
    begun ≡ record { feed = None; clock = Some clock; end = ends.Memory }
EndsBeginning {S} {C} (starts.Refused clock) begun =
    begun ≡ record { feed = None; clock = Some clock; end = ends.Refused }

-- Both jobs were started; or one was refused, which was counted, or there was no memory for one,
-- and then the clock wasn't told.
abbrev pub IsBeginning : {L S C : Type 0} → SpawnerTold (JobParts L S C)
    → SpawnerTold (JobParts L S C) → Option S → Option C → Beginning → Type 0
IsBeginning {L} {S} {C} told later unrun unticked ends.Whole =
    (unrun ≡ None) × (unticked ≡ None) × (later.faults ≡ told.faults)
IsBeginning {L} {S} {C} told later unrun unticked ends.Refused =
    (is_some unticked ≡ true) × (later.faults ≡ next_count told.faults)
IsBeginning {L} {S} {C} told later unrun unticked ends.Memory =
    (is_some unticked ≡ true) × (later.faults ≡ told.faults)

-- so many jobs were to be started and came back: none where the clock's was started, and else one,
-- since no later one is begun
abbrev pub jobs_back : {C : Type 0} → Option C → ℕ
jobs_back {C} None = 0
jobs_back {C} (Some clock) = 1

-- The jobs of this feed and of this clock were started, in this order, or what isn't started comes
-- back as it was, and the seat of the job that came back was joined again. No other job is pending.
pub record BeginsJobs {L S C : Type 0} (feed_told : S → SourceTold) (clock_told : C → ClockTold)
    (node : SharedNode) (given : SourceTold) (clock : ClockTold) (before after : NodeSeat)
    (told later : SpawnerTold (JobParts L S C)) (begun : Begun S C) : Type 0 where
  pub back : TakesBack node (jobs_back begun.clock) before after
  pub feed_is : FeedStarted feed_told node given begun.feed later.pending
  pub ticks_are : TicksStarted clock_told node clock begun.clock
      (behind_started begun.feed later).pending
  pub no_more : (behind_started begun.clock (behind_started begun.feed later)).pending ≡ []
  pub end_is : IsBeginning told later begun.feed begun.clock begun.end
