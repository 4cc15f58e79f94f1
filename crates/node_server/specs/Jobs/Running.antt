-- Which jobs may be run, and what may come of one.
use Rattle.std.specs.Prelude.{◌≡◌, None}
use Rattle.std.specs.Arc.{arc_value}
use mathlib.Core.List.{IsPrefix}
use Rattle.outside.specs.Source.{SourceTold}
use Rattle.outside.specs.Links.Clocks.{ClockTold}
use Rattle.outside.specs.Links.Links.{LinkTold}
use Rattle.share_turn.specs.Public.{IsOf, at}
use Rattle.tase_views.specs.History.{association_in}
use Rattle.tase_conn.specs.declared.stage.ConnEnd.{ConnEnd}
use Rattle.node_server.specs.declared.turn.turn_node.NodeSetup.{NodeSetup}
use Rattle.node_server.specs.Turn.Logged.{past_in}
use Rattle.node_server.specs.NodeCalls.{NodeSeat}
use Rattle.node_server.specs.Feeding.{RunsFeed}
use Rattle.node_server.specs.Ticking.{RunsTicks}
use Rattle.node_server.specs.declared.feed_end.FeedEnd.{FeedEnd}
use Rattle.node_server.specs.declared.ticking.TickEnd.{TickEnd}
use Rattle.node_server.specs.Links.ServedLinks.{ServesNextLink}
use Rattle.node_server.specs.declared.jobs.parts.JobParts.{JobParts}
use Rattle.node_server.specs.declared.jobs.parts.JobParts.TheVariants as parts
use Rattle.node_server.specs.declared.jobs.done.NodeDone.{NodeDone}
use Rattle.node_server.specs.declared.jobs.done.NodeDone.TheVariants as dones

-- The seat is one of the shared node, and the centre is that node's. The seat of a connection has
-- no open association.
abbrev pub MayRunJob : {L S C : Type 0} → JobParts L S C → Type 0
MayRunJob {L} {S} {C} (parts.Conn centre shared seat link alloc) =
    IsOf (arc_value shared) seat × (arc_value centre ≡ (arc_value shared).setup.centre)
    × (association_in (past_in seat.front) seat.number ≡ None)
MayRunJob {L} {S} {C} (parts.Feed centre shared seat source alloc) =
    IsOf (arc_value shared) seat × (arc_value centre ≡ (arc_value shared).setup.centre)
MayRunJob {L} {S} {C} (parts.Ticks shared seat clock alloc) = IsOf (arc_value shared) seat

-- a seat is what it was, but that it has seen more of the one history
pub record HasSeenMore (seat later : NodeSeat) : Type 0 where
  pub same : later ≡ at seat later.front
  pub seen : IsPrefix seat.front later.front

-- a link was served by this seat
pub record ComesOfLink (setup : NodeSetup) (seat later : NodeSeat) (link left : LinkTold)
    (end : ConnEnd) : Type 0 where
  pub seat_is : HasSeenMore seat later
  pub serves : ServesNextLink setup seat later.front link left end

-- a feed was told to the node by this seat
pub record ComesOfFeed (setup : NodeSetup) (seat later : NodeSeat) (source left : SourceTold)
    (end : FeedEnd) : Type 0 where
  pub seat_is : HasSeenMore seat later
  pub feeds : RunsFeed setup seat later.front source left end

-- a clock was told to the node by this seat
pub record ComesOfTicks (setup : NodeSetup) (seat later : NodeSeat) (clock left : ClockTold)
    (end : TickEnd) : Type 0 where
  pub seat_is : HasSeenMore seat later
  pub ticks : RunsTicks setup seat later.front clock left end

-- what may come of a job: the same sort of work was done by its seat on what it reads
abbrev pub MayComeOfJob : {L S C : Type 0} → (L → LinkTold) → (S → SourceTold) → (C → ClockTold)
    → JobParts L S C → NodeDone L S C → Type 0
MayComeOfJob {L} {S} {C} link_told feed_told clock_told
    (parts.Conn centre shared seat link alloc) (dones.Conn later left end) =
    ComesOfLink (arc_value shared).setup seat later (link_told link) (link_told left) end
MayComeOfJob {L} {S} {C} link_told feed_told clock_told
    (parts.Feed centre shared seat source alloc) (dones.Feed later left end) =
    ComesOfFeed (arc_value shared).setup seat later (feed_told source) (feed_told left) end
MayComeOfJob {L} {S} {C} link_told feed_told clock_told
    (parts.Ticks shared seat clock alloc) (dones.Ticks later left end) =
    ComesOfTicks (arc_value shared).setup seat later (clock_told clock) (clock_told left) end
MayComeOfJob {L} {S} {C} link_told feed_told clock_told job done = ⊥
