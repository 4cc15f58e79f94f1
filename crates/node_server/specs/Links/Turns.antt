-- Where a link stands that is being served, between its calls.
use Rattle.std.specs.Prelude.{◌≡◌, ◌⊎◌, ℕ, ◌≤◌, true, false, List, [], ◌++◌, length, Option, Some}
use Rattle.std.specs.Prelude.{None}
use Rattle.outside.specs.Links.LinkAnswers.{failed, LinkAnswer, LinkAnswers}
use Rattle.outside.specs.Links.Links.{LinkTold}
use Rattle.share_turn.specs.Entries.{Each}
use Rattle.tase_conn.specs.Map.Inputs.{Item}
use Rattle.tase_conn.specs.declared.stage.ConnEnd.{ConnEnd}
use Rattle.tase_conn.specs.declared.stage.ConnEnd.TheVariants as conn_ends
use Rattle.tase_conn.specs.declared.stage.PendingEvent.TheVariants as askeds
use Rattle.tase_conn.specs.declared.stage.Progress.TheVariants as progresses
use Rattle.tase_conn.specs.Talking.{Talking, pending_of, IsResting}
use Rattle.conn_service.specs.Courses.Serving.{Serves}
use Rattle.conn_service.specs.Sends.{Sends}
use Rattle.node_server.specs.declared.turn.turn_node.NodeSetup.{NodeSetup}
use Rattle.node_server.specs.Turn.Logged.{past_in}
use Rattle.node_server.specs.Seats.Serving.{shared_setup}
use Rattle.node_server.specs.Seats.Peers.{HasItsPeer}
use Rattle.node_server.specs.NodeCalls.{NodeLog}
use Rattle.node_server.specs.Links.GivenItems.{items_of, MayGoOn}
use Rattle.node_server.specs.Links.LinkUses.{UsesLink, IsUntaken}
use Rattle.node_server.specs.Links.ServedLinks.{CameBehind, HasActedOn, limit_over, ServesUpTo}

-- recv gave something, or that nothing more will come, and didn't fail
abbrev pub HasGiven : LinkAnswer → Type 0
HasGiven answer = answer.received ≡ failed → ⊥

-- a connection serves what its link gave so far; some of the events that this asks may still be
-- wanted
pub record IsUnderWay (setup : NodeSetup) (who : ℕ) (log : NodeLog) (link used : LinkTold)
    (v : Talking) : Type 0 where
  pub given : List LinkAnswer
  pub taken : List ℕ
  pub first : LinkAnswers
  pub now : LinkAnswers
  pub uses : UsesLink link used first now given taken false
  pub has_given : Each HasGiven given
  pub serves : Serves setup.centre (past_in log) who (items_of given) (taken ++ pending_of v) None v
  pub in_turn : CameBehind setup.centre who first.sent log [] given
  pub running : v.progress ≡ progresses.Running askeds.Nothing
  -- the stage names the peer of the seat's own association
  pub peer : HasItsPeer (past_in log) who v

-- all events were taken, and what is to be said is still to be sent
pub record IsToSend (setup : NodeSetup) (who : ℕ) (log : NodeLog) (link used : LinkTold)
    (v : Talking) : Type 0 where
  pub way : IsUnderWay setup who log link used v
  pub more : Each (λ (answer : LinkAnswer). MayGoOn answer.received) way.given
  pub resting : IsResting v

-- it was sent, but for what the link doesn't take now
pub record IsInTurn (setup : NodeSetup) (who : ℕ) (log : NodeLog) (link used : LinkTold)
    (v : Talking) : Type 0 where
  pub stands : IsToSend setup who log link used v
  pub even : (pending_of v ≡ [])
      ⊎ ((stands.way.now.after_nothing ≡ true)
      × (length (pending_of v) ≤ limit_over setup.centre (past_in log) who))

-- the link takes nothing now
pub record IsStuck (setup : NodeSetup) (who : ℕ) (log : NodeLog) (link used : LinkTold)
    (v : Talking) : Type 0 where
  pub stands : IsToSend setup who log link used v
  pub nothing : stands.way.now.after_nothing ≡ true
  pub untaken : IsUntaken used

-- an end that doesn't come of what the link takes, or of its faults
abbrev pub IsOwnEnd : ConnEnd → Type 0
IsOwnEnd conn_ends.LinkFault = ⊥
IsOwnEnd (conn_ends.Overflow pending limit) = ⊥
IsOwnEnd end = Unit {0}

-- a connection has ended so, and what is to be said is still to be sent
pub record HasCome (setup : NodeSetup) (who : ℕ) (log : NodeLog) (link used : LinkTold)
    (v : Talking) (end : ConnEnd) : Type 0 where
  pub given : List LinkAnswer
  pub taken : List ℕ
  pub first : LinkAnswers
  pub now : LinkAnswers
  pub uses : UsesLink link used first now given taken false
  pub own_end : IsOwnEnd end
  pub acted : List Item
  pub acted_is : HasActedOn end (items_of given) acted
  pub sends : Sends (shared_setup setup) (past_in log) who acted (Some end)
      (taken ++ pending_of v)
  pub in_turn : CameBehind setup.centre who first.sent log [] given

-- it is to send, or has ended
abbrev pub IsToSendBy : Option ConnEnd → NodeSetup → ℕ → NodeLog → LinkTold → LinkTold → Talking
    → Type 0
IsToSendBy None setup who log link used v = IsToSend setup who log link used v
IsToSendBy (Some end) setup who log link used v = HasCome setup who log link used v end

-- a turn goes on, or the link was served up to an end
abbrev pub TurnsTo : Option ConnEnd → NodeSetup → ℕ → NodeLog → LinkTold → LinkTold → Talking
    → Type 0
TurnsTo None setup who log link used v = IsInTurn setup who log link used v
TurnsTo (Some end) setup who log link used v = ServesUpTo setup who log link used end
