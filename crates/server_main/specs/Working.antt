-- The work of a server's own thread, before it gathers its jobs.
use Rattle.std.specs.Prelude.{◌≡◌, ℕ, ◌+◌, ◌≤◌, Bool, true, false, List, [], ◌++◌, map, length}
use Rattle.std.specs.Prelude.{Option, is_some, option_map}
use Rattle.outside.specs.Source.{SourceTold}
use Rattle.outside.specs.Sink.{SinkTold, AppendsAll, AppendsPart}
use Rattle.outside.specs.Links.Clocks.{ClockTold}
use Rattle.outside.specs.Links.Links.{LinkTold}
use Rattle.bilateral.specs.Rows.{CentreRows}
use Rattle.share_turn.specs.Entries.{Each, own}
use Rattle.share_turn.specs.Public.{IsOf}
use Rattle.node_server.specs.declared.turn.turn_node.NodeSetup.{NodeSetup}
use Rattle.node_server.specs.NodeCalls.{NodeCall, NodeLog, NodeSeat, CallsNode, StopsBehind}
use Rattle.server_main.specs.Plant.PlantHistory.{lines_given}
use Rattle.node_server.specs.declared.jobs.parts.JobParts.{JobParts}
use Rattle.server_main.specs.Run.Gathering.{SharedNode, SeatClaim, IsLinkJob, FeedStarted, TicksStarted}
use Rattle.server_main.specs.Run.Gathering.{behind_started}
use Rattle.server_main.specs.Run.Retiring.{LinksNoted, AreOut}
use Rattle.server_main.specs.Run.Accepting.{Accepting}
use Rattle.server_main.specs.Run.Beginning.{jobs_back}
use Rattle.server_main.specs.Run.Rounds.{ServingState, ServesOn}
use Rattle.server_main.specs.declared.run.beginning.Beginning.{Beginning}
use Rattle.server_main.specs.declared.run.beginning.Beginning.TheVariants as beginnings
use Rattle.server_main.specs.declared.run.serving.ServingEnd.{ServingEnd}
use Rattle.server_main.specs.declared.run.serving.ServingEnd.TheVariants as servings
use Rattle.server_main.specs.Rounds.Rounds.{AsksForOrders, ListenerAfterRounds, without_seat}
use Rattle.server_main.specs.declared.work_end.WorkEnd.{WorkEnd}
use Rattle.server_main.specs.declared.work_end.WorkEnd.TheVariants as works
use Rattle.server_main.specs.ServedParts.{is_listener_work, is_plant_work, CountsRefused}
use Rattle.server_main.specs.ServedParts.{IsLastAsking}

-- what a link, a feed and a clock tell
pub record Telling (L S C : Type 0) : Type 0 where
  pub link : L → LinkTold
  pub feed : S → SourceTold
  pub clock : C → ClockTold

abbrev pub telling : {L S C : Type 0} → (L → LinkTold) → (S → SourceTold) → (C → ClockTold)
    → Telling L S C
telling {L} {S} {C} link feed clock = record { link = link; feed = feed; clock = clock }

-- what the feed and the clock that a server reads tell
pub record InputsTold : Type 0 where
  pub feed : SourceTold
  pub clock : ClockTold

abbrev pub inputs_told : SourceTold → ClockTold → InputsTold
inputs_told feed clock = record { feed = feed; clock = clock }

-- no link was retired yet, and there is room for none
abbrev pub no_links : LinksNoted
no_links = record { seats = []; rooms = 0 }

-- ---- what is to be gathered

-- The jobs of the feed and of the clock are pending first, where they were started, and behind them
-- those of links that are out, with room for the seats of all of them.
pub record IsToGather {L S C : Type 0} (told : Telling L S C) (node : SharedNode)
    (given : InputsTold) (unrun : Option S) (unticked : Option C) (now : Accepting L S C)
    : Type 0 where
  pub of : IsOf node now.seat
  pub feed_is : FeedStarted told.feed node given.feed unrun now.spawner.pending
  pub ticks_are : TicksStarted told.clock node given.clock unticked
      (behind_started unrun now.spawner).pending
  pub serving : List (JobParts L S C)
  pub behind : (behind_started unticked (behind_started unrun now.spawner)).pending ≡ serving
  pub jobs : Each (IsLinkJob told.link node) serving
  pub rooms : length serving ≤ now.links.rooms
  pub out : AreOut (length serving) now.listener

-- ---- the own calls

-- the stop behind the work, where it didn't end by one
pub record StopsNode (setup : NodeSetup) (work : WorkEnd) (before : NodeSeat) (front : NodeLog)
    : Type 0 where
  pub stop : List NodeCall
  pub stops : StopsBehind (work ≡ works.Ended servings.Stopped) stop
  pub made : CallsNode setup before stop front

-- the plant has the lines of all orders that a seat was given; a front part of them where a write
-- failed
abbrev pub HasOwnLines : Bool → CentreRows → ℕ → NodeLog → SinkTold → SinkTold → Type 0
HasOwnLines false rows who front before after =
    AppendsAll before after (lines_given rows who front)
HasOwnLines true rows who front before after =
    AppendsPart before after (lines_given rows who front) true

-- ---- all of the work

-- how the work came to its end behind a beginning: in rounds, or at once where that wasn't whole
abbrev pub WorksBehind : {L S C : Type 0} → (L → LinkTold) → SharedNode → ServingState L S C
    → ServingState L S C → Beginning → WorkEnd → Type 0
WorksBehind {L} {S} {C} told node before after beginnings.Whole work = (end : ServingEnd)
    × (work ≡ works.Ended end) × ServesOn told node before after end
WorksBehind {L} {S} {C} told node before after beginnings.Refused work =
    (work ≡ works.Refused) × (after ≡ before)
WorksBehind {L} {S} {C} told node before after beginnings.Memory work =
    (work ≡ works.Ended servings.Memory) × (after ≡ before)

-- What was done from where a server stood with no links: so many jobs of links are pending now, its
-- own seat asked for orders and then the stop, and the plant has what that seat was given. So many
-- jobs of the feed and of the clock were to be started and came back.
pub record HasWorked {L S C : Type 0} (node : SharedNode) (before after : ServingState L S C)
    (started back : ℕ) (work : WorkEnd) : Type 0 where
  pub askings : List NodeCall
  pub stop : List NodeCall
  pub turned : List LinkTold
  pub number : after.now.seat.number ≡ before.now.seat.number
  -- the numbers of seats for jobs that weren't started, under which no event was taken
  pub joined : List SeatClaim
  -- one for each link that was turned away, and for the job of the feed or of the clock
  pub count : length joined ≡ length turned + back
  pub ended : after.now.seat.ended ≡ joined ++ before.now.seat.ended
  pub none : Each (λ (claim : SeatClaim). own claim.0 claim.1 ≡ []) joined
  pub asks : Each AsksForOrders askings
  pub last : IsLastAsking work askings
  pub stops : StopsBehind (work ≡ works.Ended servings.Stopped) stop
  pub made : CallsNode node.setup before.now.seat (askings ++ stop) after.now.seat.front
  pub listener : ListenerAfterRounds before.now.listener after.now.listener (length askings) turned
      (is_listener_work work)
  pub accepted : after.now.listener.accepted
      ≡ option_map (λ count. count + (length turned + started)) before.now.listener.accepted
  pub noted : after.now.links.seats ≡ map without_seat turned
  pub counts : CountsRefused work (length turned) before.now.spawner.faults
      after.now.spawner.faults
  pub plant : HasOwnLines (is_plant_work work) node.setup.centre before.now.seat.number
      after.now.seat.front before.plant after.plant

-- the same, and what is to be gathered then
pub record WorksToEnd {L S C : Type 0} (told : Telling L S C) (node : SharedNode)
    (given : InputsTold) (before after : ServingState L S C) (unrun : Option S)
    (unticked : Option C) (work : WorkEnd) : Type 0 where
  pub to_gather : IsToGather told node given unrun unticked after.now
  pub worked : HasWorked node before after (length to_gather.serving) (jobs_back unticked) work
  -- where a start was refused, the clock wasn't told, and no link was accepted
  pub unstarted : work ≡ works.Refused
      → (is_some unticked ≡ true) × (to_gather.serving ≡ [])
