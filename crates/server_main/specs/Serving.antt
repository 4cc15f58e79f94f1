-- The whole run of a server: what comes of what lies outside, and the history that is left.
use Rattle.std.specs.Prelude.{◌≡◌, ◌⊎◌, ℕ, suc, ◌≤◌, Bool, true, List, [], ◌∷◌, ◌++◌, length}
use Rattle.std.specs.Prelude.{Option, Some, None}
use Rattle.outside.specs.Faults.{counted}
use Rattle.outside.specs.Source.{SourceTold}
use Rattle.outside.specs.Sink.{SinkTold}
use Rattle.outside.specs.Links.Clocks.{ClockTold}
use Rattle.outside.specs.Links.Links.{LinkTold}
use Rattle.outside.specs.Links.Listeners.{ListenerTold}
use Rattle.node_server.specs.declared.turn.turn_node.NodeSetup.{NodeSetup}
use Rattle.node_server.specs.NodeCalls.{NodeLog}
use Rattle.server_main.specs.declared.run.seats.Seats.{Seats}
use Rattle.server_main.specs.Run.Gathering.{SeatClaim, ServedLink, FeedClaims, TicksClaims, claims_of}
use Rattle.server_main.specs.Run.Gathering.{ClosesOver}
use Rattle.server_main.specs.Rounds.Rounds.{counted_up}
use Rattle.server_main.specs.declared.work_end.WorkEnd.{WorkEnd}
use Rattle.server_main.specs.declared.work_end.WorkEnd.TheVariants as works
use Rattle.server_main.specs.declared.serve_end.ServeEnd.{ServeEnd}
use Rattle.server_main.specs.declared.serve_end.ServeEnd.TheVariants as ends
use Rattle.server_main.specs.ServedParts.{is_listener_work, is_plant_work, CountsRefused}
use Rattle.server_main.specs.ServedParts.{ServesItself, HasServedLinks, HasAllOrders, EndsBy}

-- what lies outside a server, as it is told: the count is that of the spawner's faults
pub record ServerTold : Type 0 where
  pub listener : ListenerTold
  pub plant : SinkTold
  pub feed : SourceTold
  pub clock : ClockTold
  pub starts_refused : ℕ

abbrev pub server_told : ListenerTold → SinkTold → SourceTold → ClockTold → ℕ → ServerTold
server_told listener plant feed clock refused = record {
  listener = listener;
  plant = plant;
  feed = feed;
  clock = clock;
  starts_refused = refused;
}

-- ---- names and counts

-- a count of faults rose
abbrev pub HasRisen : ℕ → ℕ → Type 0
HasRisen before after = (more : ℕ) × (after ≡ counted_up (suc more) before)

-- an object that a server works on failed in this call
abbrev pub HasFailed : ServerTold → ServerTold → Type 0
HasFailed before after = HasRisen before.listener.faults after.listener.faults
    ⊎ (HasRisen before.plant.faults after.plant.faults
    ⊎ (HasRisen before.feed.faults after.feed.faults
    ⊎ HasRisen before.clock.faults after.clock.faults))

-- the job of the feed or of the clock was refused, and no link was accepted
pub record IsUnstarted (before after : ServerTold) (seats : Seats) : Type 0 where
  pub refused : HasRisen before.starts_refused after.starts_refused
  pub no_seat : (seats.feed ≡ None) ⊎ (seats.ticks ≡ None)
  pub no_link : seats.links.seats ≡ []

-- each keeps its name, and no count of faults falls
pub record KeepsNames (before after : ServerTold) : Type 0 where
  pub listener : after.listener.name ≡ before.listener.name
  pub plant : after.plant.name ≡ before.plant.name
  pub feed : after.feed.name ≡ before.feed.name
  pub listener_count : before.listener.faults ≤ after.listener.faults
  pub plant_count : before.plant.faults ≤ after.plant.faults
  pub feed_count : before.feed.faults ≤ after.feed.faults
  pub clock_count : before.clock.faults ≤ after.clock.faults
  pub spawner_count : before.starts_refused ≤ after.starts_refused

-- ---- what comes of a run

-- The counts of the listener and the plant rose exactly where these failed, that of the spawner by
-- the jobs that it refused. Those of the feed and of the clock are told by their ends.
pub record CountsFaults (before after : ServerTold) (work : WorkEnd) (plant_failed : Bool)
    (turned : ℕ) : Type 0 where
  pub listener : after.listener.faults ≡ counted (is_listener_work work) before.listener.faults
  pub plant : after.plant.faults ≡ counted plant_failed before.plant.faults
  pub by_work : is_plant_work work ≡ true → plant_failed ≡ true
  pub starts : CountsRefused work turned before.starts_refused after.starts_refused

-- A node was served up to this end, and this is its history. Each number in it is that of the
-- server's own seat, of the feed's, of the clock's or of a link that was served; these differ, and
-- under each stand the events that were asked by it.
pub record HasServedNode (setup : NodeSetup) (before after : ServerTold) (log : NodeLog)
    (seats : Seats) (end : ServeEnd) : Type 0 where
  -- how the work ended, and what the server itself had seen behind its last call
  pub work : WorkEnd
  pub front : NodeLog
  -- the numbers of the feed and of the clock, where these were told
  pub of_feed : List SeatClaim
  pub of_ticks : List SeatClaim
  -- the links that were turned away, and those that were served
  pub turned : List LinkTold
  pub served : List ServedLink
  pub plant_failed : Bool
  pub feed : FeedClaims setup before.feed after.feed seats.feed of_feed
  pub ticks : TicksClaims setup before.clock after.clock seats.ticks of_ticks
  pub links : HasServedLinks setup before.listener after.listener seats.links.seats turned served
  pub first : seats.own ≡ 0
  pub own : ServesItself setup before.listener after.listener work seats.own front
  pub closes : ClosesOver ((seats.own, front) ∷ (claims_of served ++ (of_ticks ++ of_feed))) log
  pub plant : HasAllOrders setup.centre log before.plant after.plant plant_failed
  pub faults : CountsFaults before after work plant_failed (length turned)
  -- where a start was refused, the feed or the clock wasn't told, and no link was accepted
  pub unstarted : work ≡ works.Refused → IsUnstarted before after seats
  pub ends : EndsBy work plant_failed seats end

-- there was no memory for a node, no job was started, and all outside is as it was
pub record IsUnserved (before after : ServerTold) (seats : Seats) (end : ServeEnd) : Type 0 where
  pub memory : end ≡ ends.Memory
  pub same : after ≡ before
  pub own : seats.own ≡ 0
  pub feed : seats.feed ≡ None
  pub ticks : seats.ticks ≡ None
  pub links : seats.links.seats ≡ []

-- what came of a node with this history, where there was one
abbrev pub ComesOfNode : NodeSetup → ServerTold → ServerTold → Option NodeLog → Seats → ServeEnd
    → Type 0
ComesOfNode setup before after None seats end = IsUnserved before after seats end
ComesOfNode setup before after (Some log) seats end = HasServedNode setup before after log seats end

-- A server of these tables served a node up to this end, over what lies outside.
pub record IsServed (setup : NodeSetup) (before after : ServerTold) (log : Option NodeLog)
    (seats : Seats) (end : ServeEnd) : Type 0 where
  pub names : KeepsNames before after
  -- by `Outside` it ends only where an object failed, or no job could be started at the beginning
  pub outside_cause : end ≡ ends.Outside → HasFailed before after ⊎ IsUnstarted before after seats
  pub comes : ComesOfNode setup before after log seats end
