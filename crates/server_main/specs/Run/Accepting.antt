-- One call of accept, and what became of the link that it gave.
use Rattle.std.specs.Prelude.{◌≡◌, ℕ, Bool, true, false, ◌+◌, ◌++◌, [], ◌∷◌, Some, None}
use Rattle.outside.specs.Faults.{next_count}
use Rattle.outside.specs.Links.Jobs.{SpawnerTold}
use Rattle.outside.specs.Links.Links.{LinkTold, closed_link}
use Rattle.outside.specs.Links.Listeners.{ListenerTold, AcceptsLink, with_retired}
use Rattle.outside.specs.declared.links.job.Start.{Start}
use Rattle.outside.specs.declared.links.job.Start.TheVariants as starts
use Rattle.node_server.specs.NodeCalls.{NodeSeat}
use Rattle.node_server.specs.declared.jobs.parts.JobParts.{JobParts}
use Rattle.server_main.specs.Run.Gathering.{SharedNode, IsLinkJob}
use Rattle.server_main.specs.Run.Retiring.{LinksNoted}
use Rattle.server_main.specs.Run.Starting.{TakesBack}
use Rattle.server_main.specs.declared.run.starting.JobInput.{JobInput}
use Rattle.server_main.specs.declared.run.starting.JobInput.TheVariants as inputs
use Rattle.server_main.specs.declared.run.accepting.Accepted.{Accepted}
use Rattle.server_main.specs.declared.run.accepting.Accepted.TheVariants as ends

-- ---- a link's job

-- a link was given to a job
abbrev pub IsLinkInput : {L S C : Type 0} → JobInput L S C → Type 0
IsLinkInput {L} {S} {C} (inputs.Link link) = Unit {0}
IsLinkInput {L} {S} {C} (inputs.Feed source) = ⊥
IsLinkInput {L} {S} {C} (inputs.Clock clock) = ⊥

-- the link was closed and retired with nothing sent, and noted as one without a seat, for which
-- room was taken before
abbrev pub RetiresUnserved : LinkTold → ListenerTold → ListenerTold → LinksNoted → LinksNoted
    → Type 0
RetiresUnserved link before after noted later =
    (after ≡ with_retired before (closed_link link))
    × (later.seats ≡ noted.seats ++ None ∷ []) × (later.rooms + 1 ≡ noted.rooms)

-- what becomes of a link by the start of its job
abbrev pub SettlesLink : {L : Type 0} → (L → LinkTold) → ListenerTold → ListenerTold → LinksNoted
    → LinksNoted → Start L → Accepted → Type 0
SettlesLink {L} told before after noted later starts.Started end =
    (end ≡ ends.Serving) × (after ≡ before) × (later ≡ noted)
SettlesLink {L} told before after noted later (starts.Memory link) end =
    (end ≡ ends.Memory) × RetiresUnserved (told link) before after noted later
SettlesLink {L} told before after noted later (starts.Refused link) end =
    (end ≡ ends.TurnedAway) × RetiresUnserved (told link) before after noted later

-- ---- one call of accept

-- where the accepting stands: the own seat, the listener, the jobs, and the links that are noted
pub record Accepting (L S C : Type 0) : Type 0 where
  pub seat : NodeSeat
  pub listener : ListenerTold
  pub spawner : SpawnerTold (JobParts L S C)
  pub links : LinksNoted

abbrev pub accepting : {L S C : Type 0} → NodeSeat → ListenerTold → SpawnerTold (JobParts L S C)
    → LinksNoted → Accepting L S C
accepting {L} {S} {C} seat listener spawner links =
    record { seat = seat; listener = listener; spawner = spawner; links = links }

-- no link was given: all is as it was, but the listener's calls and its count of faults
pub record GivesNone {L S C : Type 0} (failed : Bool) (before after : Accepting L S C)
    : Type 0 where
  pub accepts : AcceptsLink before.listener after.listener None failed
  pub same_seat : after.seat ≡ before.seat
  pub same_jobs : after.spawner ≡ before.spawner
  pub same_links : after.links ≡ before.links

-- a job was started for the link that was given: room for its seat stays taken
pub record Serves {L S C : Type 0} (told : L → LinkTold) (node : SharedNode)
    (before after : Accepting L S C) : Type 0 where
  pub link : LinkTold
  pub accepts : AcceptsLink before.listener after.listener (Some link) false
  pub same_seat : after.seat ≡ before.seat
  pub job : JobParts L S C
  pub serves : IsLinkJob told node job
  pub starts : after.spawner
      ≡ record before.spawner { pending = before.spawner.pending ++ job ∷ [] }
  pub room : after.links ≡ record before.links { rooms = before.links.rooms + 1 }

-- no job was started for it: it was closed and retired with nothing sent, and noted as such, and
-- the seat that was split for its job was joined again
pub record TurnsAway {L S C : Type 0} (node : SharedNode) (faults : ℕ)
    (before after : Accepting L S C) : Type 0 where
  pub link : LinkTold
  pub given : ListenerTold
  pub accepts : AcceptsLink before.listener given (Some link) false
  pub retired : after.listener ≡ with_retired given (closed_link link)
  pub back : TakesBack node 1 before.seat after.seat
  pub counted : after.spawner ≡ record before.spawner { faults = faults }
  pub noted : after.links ≡ record before.links { seats = before.links.seats ++ None ∷ [] }

-- how one call of accept ended
abbrev pub AcceptsOnce : {L S C : Type 0} → (L → LinkTold) → SharedNode → Accepting L S C
    → Accepting L S C → Accepted → Type 0
AcceptsOnce {L} {S} {C} told node before after ends.Serving = Serves told node before after
AcceptsOnce {L} {S} {C} told node before after ends.TurnedAway =
    TurnsAway node (next_count before.spawner.faults) before after
AcceptsOnce {L} {S} {C} told node before after ends.NoLink = GivesNone false before after
AcceptsOnce {L} {S} {C} told node before after ends.Fault = GivesNone true before after
AcceptsOnce {L} {S} {C} told node before after ends.NoRoom = after ≡ before
AcceptsOnce {L} {S} {C} told node before after ends.Memory =
    TurnsAway node before.spawner.faults before after
