-- The parts of a server's whole run: its own calls, its links, its plant, and its end.
use Rattle.std.specs.Prelude.{◌≡◌, ℕ, ◌+◌, ◌-◌, ◌^◌, ◌<◌, ◌≤◌, Bool, true, false, ◌||◌}
use Rattle.std.specs.Prelude.{List, [], ◌∷◌, ◌++◌, map, length, Option, Some, None}
use Rattle.std.specs.Prelude.{is_some, option_map, IfSome}
use Rattle.std.specs.Option.{option_or}
use Rattle.std.specs.List.{list_any}
use Rattle.outside.specs.Faults.{next_count}
use Rattle.outside.specs.Sink.{SinkTold, AppendsAll, AppendsPart}
use Rattle.outside.specs.Links.Links.{LinkTold, IsNewLink, closed_link}
use Rattle.outside.specs.Links.Listeners.{ListenerTold}
use Rattle.bilateral.specs.Rows.{CentreRows}
use Rattle.tase_views.specs.OwnTables.{own_tables}
use Rattle.tase_views.specs.View.{moves_in}
use Rattle.tase_views.specs.Orders.{orders_of}
use Rattle.share_turn.specs.Entries.{Each}
use Rattle.node_server.specs.declared.turn.turn_node.NodeSetup.{NodeSetup}
use Rattle.node_server.specs.Turn.Logged.{past_in}
use Rattle.node_server.specs.TaseConn.declared.stage.ConnEnd.{ConnEnd}
use Rattle.node_server.specs.TaseConn.declared.stage.ConnEnd.TheVariants as conn_ends
use Rattle.node_server.specs.NodeCalls.{NodeCall, NodeLog, NodeSeat, CallsNode, StopsBehind}
use Rattle.node_server.specs.declared.feed_end.FeedEnd.{FeedEnd}
use Rattle.node_server.specs.declared.feed_end.FeedEnd.TheVariants as feed_ends
use Rattle.node_server.specs.Feeding.{is_source_fault}
use Rattle.node_server.specs.declared.ticking.TickEnd.{TickEnd}
use Rattle.node_server.specs.declared.ticking.TickEnd.TheVariants as tick_ends
use Rattle.node_server.specs.Ticking.{is_clock_fault}
use Rattle.texts.specs.Orders.PlantLines.{plant_text}
use Rattle.server_main.specs.declared.run.seats.FeedSeat.{FeedSeat}
use Rattle.server_main.specs.declared.run.seats.TickSeat.{TickSeat}
use Rattle.server_main.specs.declared.run.seats.LinkSeat.{LinkSeat}
use Rattle.server_main.specs.declared.run.seats.Seats.{Seats}
use Rattle.server_main.specs.declared.run.serving.ServingEnd.{ServingEnd}
use Rattle.server_main.specs.declared.run.serving.ServingEnd.TheVariants as servings
use Rattle.server_main.specs.Run.Gathering.{ServedLink, HasServed, laters_of, noted_of}
use Rattle.server_main.specs.Run.Retiring.{with_all_retired}
use Rattle.server_main.specs.Rounds.Rounds.{is_listener_end, is_plant_end, AsksForOrders, IsLastCall}
use Rattle.server_main.specs.Rounds.Rounds.{CountsTurnedAway, without_seat}
use Rattle.server_main.specs.declared.work_end.WorkEnd.{WorkEnd}
use Rattle.server_main.specs.declared.work_end.WorkEnd.TheVariants as works
use Rattle.server_main.specs.declared.fullness.Fullness.{Fullness}
use Rattle.server_main.specs.declared.serve_end.ServeEnd.{ServeEnd}
use Rattle.server_main.specs.declared.serve_end.ServeEnd.TheVariants as ends

-- ---- how the work ended

abbrev pub is_refused_work : WorkEnd → Bool
is_refused_work works.Refused = true
is_refused_work (works.Ended end) = false

abbrev pub is_listener_work : WorkEnd → Bool
is_listener_work works.Refused = false
is_listener_work (works.Ended end) = is_listener_end end

abbrev pub is_plant_work : WorkEnd → Bool
is_plant_work works.Refused = false
is_plant_work (works.Ended end) = is_plant_end end

-- so many links have no seat: each start of a job that was refused was counted, and memory was
-- wanting once at most
abbrev pub CountsRefused : WorkEnd → ℕ → ℕ → ℕ → Type 0
CountsRefused works.Refused many before after = (many ≡ 0) × (after ≡ next_count before)
CountsRefused (works.Ended end) many before after = CountsTurnedAway end many before after

-- ---- the own calls

-- the last asking for orders was refused so, where the work ended by that
abbrev pub IsLastAsking : WorkEnd → List NodeCall → Type 0
IsLastAsking works.Refused calls = calls ≡ []
IsLastAsking (works.Ended end) calls = IsLastCall end calls

-- From a first seat the server itself asked for orders, at most once for each call of accept, and
-- behind that the stop, where its work didn't end by one.
pub record ServesItself (setup : NodeSetup) (before after : ListenerTold) (work : WorkEnd)
    (who : ℕ) (front : NodeLog) : Type 0 where
  pub seat : NodeSeat
  pub number : seat.number ≡ who
  pub none : seat.front ≡ []
  pub askings : List NodeCall
  pub stop : List NodeCall
  pub asks : Each AsksForOrders askings
  pub last : IsLastAsking work askings
  pub stops : StopsBehind (work ≡ works.Ended servings.Stopped) stop
  pub made : CallsNode setup seat (askings ++ stop) front
  -- where the calls of accept are told
  pub few : IfSome before.calls (λ first. IfSome after.calls (λ last. last < 2 ^ 64 - 1
      → first + length askings ≤ last))

-- ---- the links

-- a new link was closed with nothing sent
abbrev pub IsTurnedAway : LinkTold → Type 0
IsTurnedAway link = (new : LinkTold) × IsNewLink new × (link ≡ closed_link new)

-- The listener gave these links and no others, and all were retired, in order: those that no job
-- served were turned away, the others served. What is noted of each stands in the same order.
pub record HasServedLinks (setup : NodeSetup) (before after : ListenerTold)
    (noted : List (Option LinkSeat)) (turned : List LinkTold) (served : List ServedLink)
    : Type 0 where
  pub closed : Each IsTurnedAway turned
  pub each : Each (HasServed setup) served
  pub retired : after.retired
      ≡ (with_all_retired before (turned ++ laters_of served)).retired
  pub noted_is : noted ≡ map without_seat turned ++ noted_of served
  pub all : after.accepted
      ≡ option_map (λ count. count + (length turned + length served)) before.accepted

-- ---- the plant

-- the plant has the lines of all orders of the history; a front part of them where a write failed
abbrev pub HasAllOrders : CentreRows → NodeLog → SinkTold → SinkTold → Bool → Type 0
HasAllOrders rows log before after false = AppendsAll before after
    (plant_text rows (orders_of rows (own_tables rows) (moves_in (past_in log))))
HasAllOrders rows log before after true = AppendsPart before after
    (plant_text rows (orders_of rows (own_tables rows) (moves_in (past_in log)))) true

-- ---- the end

abbrev pub full_at : ℕ → ℕ → Fullness
full_at weight limit = record { weight = weight; limit = limit }

abbrev pub full_of_rounds : ServingEnd → Option Fullness
full_of_rounds (servings.Full weight limit) = Some (full_at weight limit)
full_of_rounds end = None

abbrev pub full_of_work : WorkEnd → Option Fullness
full_of_work works.Refused = None
full_of_work (works.Ended end) = full_of_rounds end

abbrev pub full_of_fed : FeedEnd → Option Fullness
full_of_fed (feed_ends.Full weight limit) = Some (full_at weight limit)
full_of_fed end = None

abbrev pub full_of_feed : Option FeedSeat → Option Fullness
full_of_feed (Some fed) = full_of_fed fed.end
full_of_feed None = None

abbrev pub full_of_ticked : TickEnd → Option Fullness
full_of_ticked (tick_ends.Full weight limit) = Some (full_at weight limit)
full_of_ticked end = None

abbrev pub full_of_ticks : Option TickSeat → Option Fullness
full_of_ticks (Some ticked) = full_of_ticked ticked.end
full_of_ticks None = None

abbrev pub full_of_conn : ConnEnd → Option Fullness
full_of_conn (conn_ends.Full weight limit) = Some (full_at weight limit)
full_of_conn end = None

abbrev pub full_of_link : Option LinkSeat → Option Fullness
full_of_link (Some linked) = full_of_conn linked.end
full_of_link None = None

-- the first link that ended by a full history
abbrev pub full_of_links : List (Option LinkSeat) → Option Fullness
full_of_links [] = None
full_of_links (link ∷ links) = option_or (full_of_link link) (full_of_links links)

-- the first of the work, the feed, the clock and the links that ended by a full history
abbrev pub first_full : WorkEnd → Seats → Option Fullness
first_full work seats = option_or (full_of_work work)
    (option_or (full_of_feed seats.feed)
    (option_or (full_of_ticks seats.ticks) (full_of_links seats.links.seats)))

abbrev pub bad_line_fed : FeedEnd → Option ℕ
bad_line_fed (feed_ends.BadLine line) = Some line
bad_line_fed (feed_ends.LongLine line) = Some line
bad_line_fed end = None

-- the number of the feed's line that is bad or too long
abbrev pub bad_line_of : Option FeedSeat → Option ℕ
bad_line_of (Some fed) = bad_line_fed fed.end
bad_line_of None = None

abbrev pub has_source_fault : Option FeedSeat → Bool
has_source_fault (Some fed) = is_source_fault fed.end
has_source_fault None = false

abbrev pub has_clock_fault : Option TickSeat → Bool
has_clock_fault (Some ticked) = is_clock_fault (Some ticked.end)
has_clock_fault None = false

-- a start of the feed's or the clock's job was refused, or the listener, the plant, the feed or the
-- clock failed
abbrev pub fails_outside : WorkEnd → Bool → Seats → Bool
fails_outside work plant_failed seats = is_refused_work work || (is_listener_work work
    || (plant_failed || (has_source_fault seats.feed || has_clock_fault seats.ticks)))

-- the feed was told, and read to its end or to its `stop` line
abbrev pub is_read_out : FeedEnd → Bool
is_read_out feed_ends.Ended = true
is_read_out feed_ends.StopLine = true
is_read_out end = false

abbrev pub has_read_out : Option FeedSeat → Bool
has_read_out (Some fed) = is_read_out fed.end
has_read_out None = false

abbrev pub is_short_ticks : TickEnd → Bool
is_short_ticks tick_ends.Memory = true
is_short_ticks end = false

abbrev pub is_short_conn : ConnEnd → Bool
is_short_conn conn_ends.Memory = true
is_short_conn end = false

-- memory was wanting for the clock's ticks, or for the connection of a link
abbrev pub is_short_clock : Option TickSeat → Bool
is_short_clock (Some ticked) = is_short_ticks ticked.end
is_short_clock None = false

abbrev pub is_short_link : Option LinkSeat → Bool
is_short_link (Some linked) = is_short_conn linked.end
is_short_link None = false

-- the work ended by a stop, the feed was told to its end and the clock was told, memory was never
-- wanting, and the plant has all orders
pub record IsAllDone (work : WorkEnd) (plant_failed : Bool) (seats : Seats) : Type 0 where
  pub stopped : work ≡ works.Ended servings.Stopped
  pub read : has_read_out seats.feed ≡ true
  pub ticked : is_some seats.ticks ≡ true
  pub ample_ticks : is_short_clock seats.ticks ≡ false
  pub ample_links : list_any is_short_link seats.links.seats ≡ false
  pub whole : plant_failed ≡ false

-- Of several ends the first of `Outside`, `Full`, `BadFeed`, `Memory` and `Done` is answered. Where
-- all is done, want of memory is no end: by `Memory` it ends only where something is left undone
-- and none of the first three comes.
pub record EndsBy (work : WorkEnd) (plant_failed : Bool) (seats : Seats) (end : ServeEnd)
    : Type 0 where
  pub outside_only : end ≡ ends.Outside → fails_outside work plant_failed seats ≡ true
  pub outside : fails_outside work plant_failed seats ≡ true → end ≡ ends.Outside
  pub full_only : (weight limit : ℕ) → end ≡ ends.Full weight limit
      → first_full work seats ≡ Some (full_at weight limit)
  pub full : (weight limit : ℕ) → fails_outside work plant_failed seats ≡ false
      → first_full work seats ≡ Some (full_at weight limit) → end ≡ ends.Full weight limit
  pub bad_feed_only : (line : ℕ) → end ≡ ends.BadFeed line
      → (first_full work seats ≡ None) × (bad_line_of seats.feed ≡ Some line)
  pub bad_feed : (line : ℕ) → fails_outside work plant_failed seats ≡ false
      → first_full work seats ≡ None → bad_line_of seats.feed ≡ Some line
      → end ≡ ends.BadFeed line
  pub done_only : end ≡ ends.Done → IsAllDone work plant_failed seats
  pub done : fails_outside work plant_failed seats ≡ false → first_full work seats ≡ None
      → IsAllDone work plant_failed seats → end ≡ ends.Done
  pub memory_only : end ≡ ends.Memory → IsAllDone work plant_failed seats → ⊥
