-- Turns of a seat, one after another.
use Rattle.std.proofs.Common.{◌≡◌, ℕ, Option, sym, subst}
use Rattle.outside.specs.Links.Links.{LinkTold}
use Rattle.share_turn.specs.Public.{at}
use Rattle.tase_conn.specs.declared.stage.ConnEnd.{ConnEnd}
use Rattle.tase_conn.specs.Talking.{Talking}
use Rattle.node_server.specs.declared.turn.turn_node.NodeSetup.{NodeSetup}
use Rattle.node_server.specs.NodeCalls.{NodeLog, NodeSeat}
use Rattle.node_server.proofs.OfSeats.Behind.{same_number}
use Rattle.node_server.specs.Links.Turns.{IsInTurn, IsToSendBy, TurnsTo}

module _ (setup : NodeSetup) (first here : NodeSeat) (same : here ≡ at first here.front)
    (log : NodeLog) where
  -- where the seat stands now
  pub turn_here : (start used : LinkTold) (v : Talking)
      → IsInTurn setup first.number log start used v
      → IsInTurn setup here.number log start used v
  turn_here start used v t =
      subst (λ (n : ℕ). IsInTurn setup n log start used v) (sym (same_number first here same)) t

  pub send_here : (ended : Option ConnEnd) (start used : LinkTold) (v : Talking)
      → IsToSendBy ended setup first.number log start used v
      → IsToSendBy ended setup here.number log start used v
  send_here ended start used v t = subst
      (λ (n : ℕ). IsToSendBy ended setup n log start used v) (sym (same_number first here same)) t

  -- what a turn from there comes to, for the seat that it was
  turned : (longer : NodeLog) (start after : LinkTold) (new : Talking) (ended : Option ConnEnd)
      → TurnsTo ended setup here.number longer start after new
      → TurnsTo ended setup first.number longer start after new
  turned longer start after new ended t = subst
      (λ (n : ℕ). TurnsTo ended setup n longer start after new) (same_number first here same) t

  pub turn_on : (longer : NodeLog) (start used after : LinkTold) (v new : Talking)
      (ended : Option ConnEnd)
      → ((begin : LinkTold) → IsInTurn setup here.number log begin used v
      → TurnsTo ended setup here.number longer begin after new)
      → IsInTurn setup first.number log start used v
      → TurnsTo ended setup first.number longer start after new
  turn_on longer start used after v new ended turns t =
      turned longer start after new ended (turns start (turn_here start used v t))

  pub sent_on : (came : Option ConnEnd) (longer : NodeLog) (start used after : LinkTold)
      (v new : Talking) (ended : Option ConnEnd)
      → ((begin : LinkTold) → IsToSendBy came setup here.number log begin used v
      → TurnsTo ended setup here.number longer begin after new)
      → IsToSendBy came setup first.number log start used v
      → TurnsTo ended setup first.number longer start after new
  sent_on came longer start used after v new ended turns t =
      turned longer start after new ended (turns start (send_here came start used v t))
