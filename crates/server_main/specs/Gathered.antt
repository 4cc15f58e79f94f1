-- What a server gathers of its jobs, and the node that is left.
use Rattle.std.specs.Prelude.{◌≡◌, ℕ, Bool, true, false, List, ◌∷◌, ◌++◌, length}
use Rattle.outside.specs.Sink.{SinkTold, AppendsAll, AppendsPart}
use Rattle.outside.specs.Links.Listeners.{ListenerTold}
use Rattle.bilateral.specs.Rows.{CentreRows}
use Rattle.tase_views.specs.OwnTables.{own_tables}
use Rattle.tase_views.specs.View.{moves_in}
use Rattle.tase_views.specs.Orders.{orders_left}
use Rattle.share_turn.specs.Entries.{Each}
use Rattle.node_server.specs.Turn.Logged.{past_in}
use Rattle.node_server.specs.NodeCalls.{NodeLog}
use Rattle.texts.specs.Orders.PlantLines.{plant_text}
use Rattle.server_main.specs.declared.run.seats.Seats.{Seats}
use Rattle.server_main.specs.Run.Gathering.{SharedNode, SeatClaim, ServedLink, HasServed, FeedClaims}
use Rattle.server_main.specs.Run.Gathering.{TicksClaims, ClosesOver, Gathering, claims_of, laters_of}
use Rattle.server_main.specs.Run.Gathering.{noted_of}
use Rattle.server_main.specs.Run.Retiring.{with_all_retired}
use Rattle.server_main.specs.Working.{InputsTold}

-- The jobs were finished, of links so many, and this is what the seats name, what is left of feed
-- and clock, and the closed node's history.
pub record HasGathered (node : SharedNode) (given : InputsTold) (before : Gathering) (many : ℕ)
    (later : ListenerTold) (left : InputsTold) (seats : Seats) (log : NodeLog) : Type 0 where
  pub of_feed : List SeatClaim
  pub of_ticks : List SeatClaim
  pub served : List ServedLink
  pub fed : FeedClaims node.setup given.feed left.feed seats.feed of_feed
  pub ticked : TicksClaims node.setup given.clock left.clock seats.ticks of_ticks
  pub count : length served ≡ many
  pub each : Each (HasServed node.setup) served
  pub retired : later ≡ with_all_retired before.listener (laters_of served)
  pub noted_is : seats.links.seats ≡ before.seats ++ noted_of served
  pub own_is : seats.own ≡ before.seat.number
  pub closes : ClosesOver ((before.seat.number, before.seat.front)
      ∷ (claims_of served ++ (of_ticks ++ of_feed)) ++ before.seat.ended) log

-- the lines of the orders that are left of a history
abbrev pub lines_left : CentreRows → NodeLog → List ℕ
lines_left rows log = plant_text rows (orders_left rows (own_tables rows) (moves_in (past_in log)))

-- The plant was told the orders that are left, unless a write failed before or fails now.
abbrev pub TellsLeft : Bool → CentreRows → NodeLog → SinkTold → SinkTold → Bool → Type 0
TellsLeft true rows log before after failed = (failed ≡ true) × (after ≡ before)
TellsLeft false rows log before after false = AppendsAll before after (lines_left rows log)
TellsLeft false rows log before after true = AppendsPart before after (lines_left rows log) true
