-- A link whose connection is served by a seat of a shared node.
use Rattle.std.specs.Prelude.{◌≡◌, ◌⊎◌, ℕ, ◌+◌, ◌<◌, ◌≤◌, Bool, true, List, [], ◌∷◌, ◌++◌}
use Rattle.std.specs.Prelude.{length, reverse, Some}
use mathlib.Core.List.{IsPrefix}
use Rattle.bilateral.specs.Rows.{CentreRows}
use Rattle.outside.specs.Links.LinkAnswers.{LinkAnswer, LinkAnswers}
use Rattle.outside.specs.Links.Links.{LinkTold, closed_link}
use Rattle.share_turn.specs.Entries.{Each, own}
use Rattle.share_turn.specs.Public.{at}
use Rattle.tase_views.specs.History.{Past}
use Rattle.tase_conn.specs.Map.Inputs.{Item}
use Rattle.tase_conn.specs.Map.Asks.{asks_of}
use Rattle.tase_conn.specs.Map.Sent.{events_by}
use Rattle.tase_conn.specs.Map.Linked.{opened_in, link_octets}
use Rattle.tase_conn.specs.declared.stage.ConnEnd.{ConnEnd}
use Rattle.tase_conn.specs.declared.stage.ConnEnd.TheVariants as conn_ends
use Rattle.conn_service.specs.Sends.{Sends}
use Rattle.node_server.specs.declared.turn.turn_node.NodeSetup.{NodeSetup}
use Rattle.node_server.specs.Turn.Logged.{past_in}
use Rattle.node_server.specs.Seats.Since.{log_since, since_here}
use Rattle.node_server.specs.Seats.Serving.{shared_setup}
use Rattle.node_server.specs.Seats.Peers.{limit_of}
use Rattle.node_server.specs.NodeCalls.{NodeCall, NodeLog, NodeSeat, CallsNode, AsksStop}
use Rattle.node_server.specs.Links.GivenItems.{items_of, MayGoOn}
use Rattle.node_server.specs.Links.LinkUses.{UsesLink, IsUntaken}

-- ---- what may wait

-- how many octets may wait over a history, for the peer of this seat's link
abbrev pub limit_over : CentreRows → Past → ℕ → ℕ
limit_over rows past who = limit_of rows (opened_in past who)

-- ---- an answer of the link

-- of so many octets that are due, the link had taken all when this answer came; or as many as it
-- takes now, where the send directly before took nothing, and no more waited than may
abbrev pub HasTaken : ℕ → ℕ → ℕ → LinkAnswer → Type 0
HasTaken start due most answer = (answer.sent ≡ start + due)
    ⊎ ((answer.after_nothing ≡ true) × (start + due ≤ answer.sent + most))

-- All that the link had given before this answer was acted on when it came: more could come behind
-- it, the seat had had all events that it asks, and the link had taken the octets that are due for
-- it over the history up to there.
pub record CameInTurn (rows : CentreRows) (who start : ℕ) (log : NodeLog)
    (before : List LinkAnswer) (answer : LinkAnswer) : Type 0 where
  pub more : Each (λ (earlier : LinkAnswer). MayGoOn earlier.received) before
  -- what was seen by then
  pub seen : NodeLog
  pub is_front : IsPrefix seen log
  pub asked : reverse (events_by who (past_in seen)) ≡ asks_of rows (items_of before)
  pub taken : HasTaken start (length (link_octets rows (past_in seen) who (items_of before)))
      (limit_over rows (past_in seen) who) answer

-- each of these answers came so, behind others
abbrev pub CameBehind : CentreRows → ℕ → ℕ → NodeLog → List LinkAnswer → List LinkAnswer → Type 0
CameBehind rows who start log before [] = Unit {0}
CameBehind rows who start log before (answer ∷ answers) =
    CameInTurn rows who start log before answer
    × CameBehind rows who start log (before ++ answer ∷ []) answers

-- ---- the end

-- the connection has acted on all that the link gave; or, where memory was wanting, on all but the
-- last of it
abbrev pub HasActedOn : ConnEnd → List Item → List Item → Type 0
HasActedOn conn_ends.Memory given acted =
    (given ≡ acted) ⊎ ((last : Item) × (given ≡ acted ++ last ∷ []))
HasActedOn end given acted = given ≡ acted

-- Octets wait at an end where the last send took nothing or failed, and no recv came after it, or
-- where the link has failed. Where it overflows more than may wait, and no recv came after a send
-- that took nothing.
abbrev pub WaitAtEnd : ConnEnd → ℕ → LinkTold → LinkAnswers → List ℕ → Type 0
WaitAtEnd conn_ends.LinkFault most link now waiting = Unit {0}
WaitAtEnd (conn_ends.Overflow pending limit) most link now waiting =
    (pending ≡ length waiting) × (limit ≡ most) × (limit < pending) × IsUntaken link
    × (now.after_nothing ≡ true)
WaitAtEnd end most link now waiting = (waiting ≡ []) ⊎ IsUntaken link

-- where a connection ends for its link, that has failed
abbrev pub HasFailedFor : ConnEnd → Bool → Type 0
HasFailedFor conn_ends.LinkFault has_failed = has_failed ≡ true
HasFailedFor end has_failed = Unit {0}

-- A link was served by a seat up to this end, and is still to be closed: what it gave was asked of
-- the node, and what that has answered was sent, turn by turn.
pub record ServesUpTo (setup : NodeSetup) (who : ℕ) (log : NodeLog) (link used : LinkTold)
    (end : ConnEnd) : Type 0 where
  -- what the link gave, the octets that it took, and those that still wait
  pub given : List LinkAnswer
  pub taken : List ℕ
  pub waiting : List ℕ
  pub first : LinkAnswers
  pub now : LinkAnswers
  pub has_failed : Bool
  pub uses : UsesLink link used first now given taken has_failed
  pub failed : HasFailedFor end has_failed
  pub acted : List Item
  pub acted_is : HasActedOn end (items_of given) acted
  -- what is owed to the peer
  pub sends : Sends (shared_setup setup) (past_in log) who acted (Some end) (taken ++ waiting)
  pub in_turn : CameBehind setup.centre who first.sent log [] given
  pub waits : WaitAtEnd end (limit_over setup.centre (past_in log) who) used now waiting

-- a connection stops the node for whose events the history had no room
abbrev pub StopsIfFull : ConnEnd → List NodeCall → Type 0
StopsIfFull (conn_ends.Full weight limit) calls = AsksStop calls
StopsIfFull end calls = calls ≡ []

-- ---- all of it

-- A link was served so up to this end, over what was seen and as it was used, and then closed; where
-- the history was full the node was stopped.
pub record ServesAndCloses (Served : NodeLog → LinkTold → Type 0) (setup : NodeSetup)
    (seat : NodeSeat) (front : NodeLog) (later : LinkTold) (end : ConnEnd) : Type 0 where
  -- what was seen behind the connection's events, and the link before it was closed
  pub seen : NodeLog
  pub is_front : IsPrefix seat.front seen
  pub used : LinkTold
  pub served : Served seen used
  pub closed : later ≡ closed_link used
  pub stop : List NodeCall
  pub stops : StopsIfFull end stop
  pub stopped : CallsNode setup (at seat seen) stop front

-- a link was served by a seat that had done nothing before
abbrev pub ServesLink : NodeSetup → NodeSeat → NodeLog → LinkTold → LinkTold → ConnEnd → Type 0
ServesLink setup seat front link later end = ServesAndCloses
    (λ (seen : NodeLog) (used : LinkTold). ServesUpTo setup seat.number seen link used end)
    setup seat front later end

-- A link was served by a seat that may have served others before. What it did for these, in the
-- front that it had seen, is no act of this link's: to whatever number it is put down of which
-- nothing was seen, the link was served over all that was seen.
abbrev pub ServesNextLink : NodeSetup → NodeSeat → NodeLog → LinkTold → LinkTold → ConnEnd → Type 0
ServesNextLink setup seat front link later end = ServesAndCloses
    (λ (seen : NodeLog) (used : LinkTold). (other : ℕ) → own other seat.front ≡ []
    → ServesUpTo setup seat.number (log_since (since_here seat other) seen) link used end)
    setup seat front later end
