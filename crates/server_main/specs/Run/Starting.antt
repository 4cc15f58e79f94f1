-- The start of a job of a shared node, by the main thread's seat.
use Rattle.std.specs.Prelude.{◌≡◌, ℕ, List, [], ◌∷◌, ◌++◌, length}
use Rattle.std.specs.Arc.{arc_value}
use Rattle.outside.specs.Faults.{next_count}
use Rattle.outside.specs.Links.Jobs.{SpawnerTold}
use Rattle.outside.specs.declared.links.job.Start.{Start}
use Rattle.outside.specs.declared.links.job.Start.TheVariants as starts
use Rattle.share_turn.specs.Entries.{Each, own}
use Rattle.share_turn.specs.Public.{IsOf}
use Rattle.node_server.specs.NodeCalls.{NodeSeat}
use Rattle.node_server.specs.declared.jobs.parts.JobParts.{JobParts}
use Rattle.node_server.specs.declared.jobs.parts.JobParts.TheVariants as parts
use Rattle.server_main.specs.Run.Gathering.{SharedNode, SeatClaim, HasFreshSeat}
use Rattle.server_main.specs.declared.run.starting.JobInput.{JobInput}
use Rattle.server_main.specs.declared.run.starting.JobInput.TheVariants as inputs

-- a job's seat
abbrev pub seat_of : {L S C : Type 0} → JobParts L S C → NodeSeat
seat_of {L} {S} {C} (parts.Conn centre shared seat link alloc) = seat
seat_of {L} {S} {C} (parts.Feed centre shared seat source alloc) = seat
seat_of {L} {S} {C} (parts.Ticks shared seat clock alloc) = seat

-- what a job works on
abbrev pub input_of : {L S C : Type 0} → JobParts L S C → JobInput L S C
input_of {L} {S} {C} (parts.Conn centre shared seat link alloc) = inputs.Link link
input_of {L} {S} {C} (parts.Feed centre shared seat source alloc) = inputs.Feed source
input_of {L} {S} {C} (parts.Ticks shared seat clock alloc) = inputs.Clock clock

-- the node that a job is of
abbrev pub node_of : {L S C : Type 0} → JobParts L S C → SharedNode
node_of {L} {S} {C} (parts.Conn centre shared seat link alloc) = arc_value shared
node_of {L} {S} {C} (parts.Feed centre shared seat source alloc) = arc_value shared
node_of {L} {S} {C} (parts.Ticks shared seat clock alloc) = arc_value shared

-- a job of the node that works on this input, by a fresh seat
pub record IsJobOn {L S C : Type 0} (node : SharedNode) (input : JobInput L S C)
    (job : JobParts L S C) : Type 0 where
  pub works_on : input_of job ≡ input
  pub fresh : HasFreshSeat node (node_of job) (seat_of job)

-- So many seats, that were split for jobs which came back, were joined again: the seat is of the
-- same node, has seen what it had seen, and claims their numbers too, under which no event was
-- taken.
pub record TakesBack (node : SharedNode) (many : ℕ) (before after : NodeSeat) : Type 0 where
  pub of : IsOf node after
  pub number : after.number ≡ before.number
  pub front : after.front ≡ before.front
  pub claims : List SeatClaim
  pub count : length claims ≡ many
  pub ended : after.ended ≡ claims ++ before.ended
  pub none : Each (λ (claim : SeatClaim). own claim.0 claim.1 ≡ []) claims

-- A job on this input was started, and is the last of those that are pending; or it wasn't, what
-- the input is made of comes back, and the one seat that was split for it was joined again. The
-- spawner's count of faults rises exactly where it refuses.
abbrev pub StartsAs : {X L S C : Type 0} → (X → JobInput L S C) → SharedNode → X → NodeSeat
    → NodeSeat → SpawnerTold (JobParts L S C) → SpawnerTold (JobParts L S C) → Start X → Type 0
StartsAs {X} {L} {S} {C} made node x before after told later starts.Started = (after ≡ before)
    × ((job : JobParts L S C) × IsJobOn node (made x) job
    × (later ≡ record told { pending = told.pending ++ job ∷ [] }))
StartsAs {X} {L} {S} {C} made node x before after told later (starts.Memory back) =
    (back ≡ x) × TakesBack node 1 before after × (later ≡ told)
StartsAs {X} {L} {S} {C} made node x before after told later (starts.Refused back) =
    (back ≡ x) × TakesBack node 1 before after
    × (later ≡ record told { faults = next_count told.faults })

-- the same of an input as it is
abbrev pub StartsJobOn : {L S C : Type 0} → SharedNode → JobInput L S C → NodeSeat → NodeSeat
    → SpawnerTold (JobParts L S C) → SpawnerTold (JobParts L S C) → Start (JobInput L S C)
    → Type 0
StartsJobOn {L} {S} {C} node input before after told later start =
    StartsAs (λ (i : JobInput L S C). i) node input before after told later start
