-- A connection that is to be given up, and one that was.
use Rattle.std.specs.Prelude.{◌≡◌, ℕ, Bool, true, false, List, [], ◌++◌, None}
use Rattle.outside.specs.Links.LinkAnswers.{LinkAnswer, LinkAnswers}
use Rattle.outside.specs.Links.Links.{LinkTold}
use Rattle.tase_conn.specs.Map.Inputs.{Item}
use Rattle.tase_conn.specs.declared.stage.ConnEnd.{ConnEnd}
use Rattle.tase_conn.specs.declared.stage.ConnEnd.TheVariants as conn_ends
use Rattle.tase_conn.specs.declared.stage.PendingEvent.TheVariants as askeds
use Rattle.tase_conn.specs.declared.stage.Progress.TheVariants as progresses
use Rattle.tase_conn.specs.Talking.{Talking, pending_of}
use Rattle.conn_service.specs.Courses.Serving.{Serves}
use Rattle.node_server.specs.declared.turn.turn_node.NodeSetup.{NodeSetup}
use Rattle.node_server.specs.Turn.Logged.{past_in}
use Rattle.node_server.specs.NodeCalls.{NodeLog}
use Rattle.node_server.specs.Seats.Serving.{IsServersEnd, RestsFor}
use Rattle.node_server.specs.Links.GivenItems.{items_of}
use Rattle.node_server.specs.Links.LinkUses.{UsesLink}
use Rattle.node_server.specs.Links.ServedLinks.{CameBehind, HasActedOn, WaitAtEnd, limit_over}
use Rattle.node_server.specs.Links.ServedLinks.{ServesUpTo}
use Rattle.node_server.specs.Links.Turns.{HasCome}

-- the link has failed where a connection is given up for that, and else it hasn't
abbrev pub HasFailedOnly : ConnEnd → Bool → Type 0
HasFailedOnly conn_ends.LinkFault has_failed = has_failed ≡ true
HasFailedOnly end has_failed = has_failed ≡ false

-- what waits where it is given up; where memory was wanting that is still to be sent
abbrev pub WaitsToLeave : ConnEnd → ℕ → LinkTold → LinkAnswers → List ℕ → Type 0
WaitsToLeave conn_ends.Memory most link now waiting = Unit {0}
WaitsToLeave end most link now waiting = WaitAtEnd end most link now waiting

-- a connection is to be given up for this end
pub record IsToLeave (setup : NodeSetup) (who : ℕ) (log : NodeLog) (link used : LinkTold)
    (v : Talking) (end : ConnEnd) : Type 0 where
  pub by_server : IsServersEnd end
  pub given : List LinkAnswer
  pub taken : List ℕ
  pub first : LinkAnswers
  pub now : LinkAnswers
  pub has_failed : Bool
  pub uses : UsesLink link used first now given taken has_failed
  pub failed : HasFailedOnly end has_failed
  pub acted : List Item
  pub acted_is : HasActedOn end (items_of given) acted
  pub serves : Serves setup.centre (past_in log) who acted (taken ++ pending_of v) None v
  pub running : v.progress ≡ progresses.Running askeds.Nothing
  pub rests : RestsFor end v
  pub in_turn : CameBehind setup.centre who first.sent log [] given
  pub waits : WaitsToLeave end (limit_over setup.centre (past_in log) who) used now (pending_of v)

-- it was given up: its link was served up to this end; or, where memory was wanting, it has ended,
-- and what is to be said is still to be sent
abbrev pub IsLeftFor : ConnEnd → NodeSetup → ℕ → NodeLog → LinkTold → LinkTold → Talking → Type 0
IsLeftFor conn_ends.Memory setup who log link used v =
    HasCome setup who log link used v conn_ends.Memory
IsLeftFor end setup who log link used v = ServesUpTo setup who log link used end
